use Rattle.std.proofs.Common.{◌≡◌, ◌∙◌, [], Some, sym, ap}
use Rattle.std.specs.Option.{unwrap_or}
use Rattle.fold_keys.specs.Shape.{others_of_layer}
use Rattle.json_tree.specs.declared.tree.Json.{out-Json}
use Rattle.fold_keys.proofs.Files.{first_is_readable, others_of, others_readable, file_whole, read_by}
use Rattle.fold_keys.proofs.file.read_file.Goals as goal
use Rattle.fold_keys.proofs.file.read_file.Goals.{in-Some+in_ok-frames-in-Some, in-None+in_ok-frames-in-None}

pub read_frame-requires : goal.read_frame-requires
read_frame-requires c =
    first_is_readable c.args.tree
    (record { distinct = c.requires.proper.distinct; short = c.requires.lists }) c.requires.version

pub read_others-requires-clause-few : goal.read_others-requires-clause-few
read_others-requires-clause-few c =
    let aside : others_of_layer (out-Json c.args.tree) ≡ Some c.in-Some.trees =
    cc (c.in_ok-first.ensures.0.aside) in
    (others_of c.args.tree c.in-Some.trees
    (record { distinct = c.requires.proper.distinct; short = c.requires.lists }) aside).few

pub read_others-requires-clause-readable : goal.read_others-requires-clause-readable
read_others-requires-clause-readable c =
    let aside : others_of_layer (out-Json c.args.tree) ≡ Some c.in-Some.trees =
    cc (c.in_ok-first.ensures.0.aside) in
    others_readable c.args.tree c.in-Some.trees
    (others_of c.args.tree c.in-Some.trees
    (record { distinct = c.requires.proper.distinct; short = c.requires.lists }) aside)

pub returns : goal.returns
returns c =
    let whole = file_whole c.args.tree c.in_ok-first.first c.in_ok-first.others
    c.match-others.frames c.requires.proper c.requires.lists c.requires.version c.in_ok-first.ensures.0
    c.in_ok-first.ensures.1 in
    elim c.match-others.branch [
      | in-Some+in_ok-frames-in-Some w ↦
          let same : w.in-Some.trees ≡ unwrap_or c.in_ok-first.others [] =
          sym (ap (λ o. unwrap_or o []) w.in-Some.is) in
          whole (read_by c.in_ok-first.first c.in_ok-first.others w.in-Some.trees
          c.match-others.frames _ same w.frames-is w.in_ok-frames-in-Some.ensures)
      | in-None+in_ok-frames-in-None w ↦
          let same : w.new.result ≡ unwrap_or c.in_ok-first.others [] =
          w.new.ensures ∙ sym (ap (λ o. unwrap_or o []) w.in-None.is) in
          whole (read_by c.in_ok-first.first c.in_ok-first.others w.new.result c.match-others.frames
          _ same w.frames-is w.in_ok-frames-in-None.ensures)
    ]
