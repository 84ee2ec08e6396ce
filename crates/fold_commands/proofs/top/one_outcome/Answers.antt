use Rattle.std.proofs.Common.{length}
use Rattle.fold_commands.proofs.Outcomes.{HaveOneReading, HaveOneFile, some_outcome, one_outcome}
use Rattle.fold_commands.proofs.Drawn.{HaveOneDrawings}
use Rattle.fold_commands.proofs.OneFold.{HaveOneFolds}
use Rattle.fold_commands.proofs.OneRepair.{HaveOneRepairs}
use Rattle.fold_commands.proofs.top.one_outcome.Goals as goal

pub returns : goal.returns
returns c =
    let readings : HaveOneReading = record {
      fold = record { value = c.one_reading-2.ensures.tree; fault = c.one_reading-2.ensures.fault; either = c.one_reading-2.ensures.either; some = c.one_reading-2.ensures.some };
      cp = record { value = c.one_reading.ensures.lines; fault = c.one_reading.ensures.fault; either = c.one_reading.ensures.either; some = c.one_reading.ensures.some };
    } in
    let files : HaveOneFile = record {
      some = λ tree is none. c.trees_have_files.ensures tree is.proper is.lists is.version none;
      one = c.written_reads_back.ensures.one;
      sound = λ bytes tree few spells.
          let lengths = c.spelled_trees_are_proper.ensures.lengths bytes tree spells in
          record {
            proper = c.spelled_trees_are_proper.ensures.proper bytes tree spells;
            lists = c.read_trees_are_readable.ensures.lists (length bytes) tree few lengths;
            version = c.read_trees_are_readable.ensures.version (length bytes) tree few lengths;
            short = (length bytes, few, lengths);
          };
      some_frame = c.one_effective_frame.ensures.some;
      one_frame = c.one_effective_frame.ensures.one;
      one_cause = c.one_effective_frame.ensures.one_cause;
      apart = c.one_effective_frame.ensures.apart;
    } in
    let drawings : HaveOneDrawings = record {
      rational = record { ends = c.one_reading-3.ensures.ends; unread = c.one_reading-3.ensures.unread; not_both = c.one_reading-3.ensures.not_both; some = c.one_reading-3.ensures.some; one_file = c.one_file.ensures.once; some_file = c.one_file.ensures.some };
      over_two = record { ends = c.one_reading-4.ensures.ends; unread = c.one_reading-4.ensures.unread; not_both = c.one_reading-4.ensures.not_both; some = c.one_reading-4.ensures.some; one_file = c.one_file-2.ensures.once; some_file = c.one_file-2.ensures.some };
      over_three = record { ends = c.one_reading-5.ensures.ends; unread = c.one_reading-5.ensures.unread; not_both = c.one_reading-5.ensures.not_both; some = c.one_reading-5.ensures.some; one_file = c.one_file-3.ensures.once; some_file = c.one_file-3.ensures.some };
    } in
    let repairs : HaveOneRepairs = record {
      rational = c.one_repair.ensures;
      over_two = c.one_repair-2.ensures;
      over_three = c.one_repair-3.ensures;
    } in
    let folds : HaveOneFolds = record {
      rational = c.one_fold.ensures;
      over_two = c.one_fold-2.ensures;
      over_three = c.one_fold-3.ensures;
    } in
    record { some = some_outcome readings files drawings repairs folds; one = one_outcome readings files drawings repairs folds }
