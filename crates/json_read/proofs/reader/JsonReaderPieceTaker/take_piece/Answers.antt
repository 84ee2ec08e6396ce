use Rattle.std.proofs.Common.{List, ℕ, ◌++◌}
use Rattle.json_read.specs.Reader.{HasRead}
use Rattle.json_read.proofs.Kept.{kept_by}
use Rattle.json_read.proofs.reader.JsonReaderPieceTaker.take_piece.Goals as goal

pub returns-in-Ok-clause-kept : goal.returns-in-Ok-clause-kept
returns-in-Ok-clause-kept c = λ text fault r n more.
    let read : (text : List ℕ) → HasRead c.args.self.now text → HasRead c.feed.new.self (text ++ c.args.piece.now) = c.in-Ok.ensures.read in
    kept_by c.feed.new.self.stopped c.feed.new.self.machine (text ++ c.args.piece.now) fault (read text r).1 n more

pub returns-in-Err-Text-clause-kept : goal.returns-in-Err-Text-clause-kept
returns-in-Err-Text-clause-kept c = λ text fault r n more.
    let read : (text : List ℕ) → HasRead c.args.self.now text → HasRead c.feed.new.self (text ++ c.args.piece.now) = rw c.in-Err-Text.field-0-is at c.in-Err-Text.ensures.read in
    kept_by c.feed.new.self.stopped c.feed.new.self.machine (text ++ c.args.piece.now) fault (read text r).1 n more
