use Rattle.std.proofs.Common.{List, ℕ, sym, ◌∙◌, subst, refl, Ok, Err}
use Rattle.json_read.specs.Reader.{HasRead, HasReadBy}
use Rattle.json_read.specs.Reads.{FinishAnswers}
use Rattle.json_read.specs.Views.{state_of}
use Rattle.json_read.specs.declared.fault.JsonCause.TheVariants.{Ended}
use Rattle.json_read.specs.declared.fault.JsonReadFault.TheVariants.{Text}
use Rattle.json_tree.proofs.SpelledLengths.{spelled_lengths}
use Rattle.json_tree.proofs.SpelledTrees.{spelled}
use Rattle.json_read.proofs.Feeds.{tree_answers, end_answers, stopped_finish}
use Rattle.json_read.proofs.Readings.{accepted_finish, refused_finish}
use Rattle.json_read.proofs.reader.JsonReader.finish.Goals.{In-Some-2, In-None-2}
use Rattle.json_read.proofs.reader.JsonReader.finish.Goals as goal

done : (c : In-Some-2) (text : List ℕ) → HasRead c.args.self text → FinishAnswers text (Ok c.in-Some-2.tree)
done c text r = tree_answers text (state_of c.args.self.machine) c.in-Some-2.tree (subst (λ s. HasReadBy s c.args.self.machine text) c.in-None.is r.1) (sym c.in_ok-tree-in-None.ensures ∙ c.in-Some-2.is)

ended : (c : In-None-2) (text : List ℕ) → HasRead c.args.self text → FinishAnswers text (Err (Text (record { place = c.args.self.count; cause = Ended })))
ended c text r = end_answers text (state_of c.args.self.machine) (record { place = c.args.self.count; cause = Ended }) (subst (λ s. HasReadBy s c.args.self.machine text) c.in-None.is r.1) (sym c.in_ok-tree-in-None.ensures ∙ c.in-None-2.is) r.0 refl

pub returns-in-Some-clause-answer : goal.returns-in-Some-clause-answer
returns-in-Some-clause-answer c = λ text r. stopped_finish c.args.self c.in-Some.found text c.in-Some.is r

pub returns-in-Some-clause-accepted : goal.returns-in-Some-clause-accepted
returns-in-Some-clause-accepted c = λ text tree r s. accepted_finish text tree (Err c.in-Some.found) s (stopped_finish c.args.self c.in-Some.found text c.in-Some.is r)

pub returns-in-Some-clause-refused : goal.returns-in-Some-clause-refused
returns-in-Some-clause-refused c = λ text fault r n. refused_finish text fault (Err c.in-Some.found) n (stopped_finish c.args.self c.in-Some.found text c.in-Some.is r)

pub returns-in-Some-2-clause-answer : goal.returns-in-Some-2-clause-answer
returns-in-Some-2-clause-answer c = done c

pub returns-in-Some-2-clause-proper : goal.returns-in-Some-2-clause-proper
returns-in-Some-2-clause-proper c = λ text r. (spelled text c.in-Some-2.tree (done c text r)).0

pub returns-in-Some-2-clause-lengths : goal.returns-in-Some-2-clause-lengths
returns-in-Some-2-clause-lengths c = λ text r. spelled_lengths text c.in-Some-2.tree (done c text r)

pub returns-in-Some-2-clause-accepted : goal.returns-in-Some-2-clause-accepted
returns-in-Some-2-clause-accepted c = λ text tree r s. accepted_finish text tree (Ok c.in-Some-2.tree) s (done c text r)

pub returns-in-Some-2-clause-refused : goal.returns-in-Some-2-clause-refused
returns-in-Some-2-clause-refused c = λ text fault r n. refused_finish text fault (Ok c.in-Some-2.tree) n (done c text r)

pub returns-in-None-2-clause-answer : goal.returns-in-None-2-clause-answer
returns-in-None-2-clause-answer c = ended c

pub returns-in-None-2-clause-accepted : goal.returns-in-None-2-clause-accepted
returns-in-None-2-clause-accepted c = λ text tree r s. accepted_finish text tree (Err (Text (record { place = c.args.self.count; cause = Ended }))) s (ended c text r)

pub returns-in-None-2-clause-refused : goal.returns-in-None-2-clause-refused
returns-in-None-2-clause-refused c = λ text fault r n. refused_finish text fault (Err (Text (record { place = c.args.self.count; cause = Ended }))) n (ended c text r)
