use Rattle.std.proofs.Common.{◌≡◌, ◌≤◌, [], length, ap, arith}
use Rattle.json_tree.specs.Tree.{HasLengthsUpTo}
use Rattle.fold_keys.specs.Short.{HasShortLists, HasShortSpec}
use Rattle.keys_tests.proofs.Read.{if_ok}
use Rattle.keys_tests.proofs.files.read.Goals as goal

pub returns-clause-lists : goal.returns-clause-lists
returns-clause-lists c =
    let text = c.as_bytes.result.now in
    let within : length text ≤ 16777216 = omega (arith, c.requires, ap length c.as_bytes.ensures.value) in
    let lengths = c.finish.ensures.lengths text (c.in_ok-feed.ensures.read [] c.new-reader.ensures.read) in
    if_ok (HasLengthsUpTo (length text)) HasShortLists c.finish.result
    (λ tree. c.read_trees_are_readable.ensures.lists (length text) tree within) lengths

pub returns-clause-version : goal.returns-clause-version
returns-clause-version c =
    let text = c.as_bytes.result.now in
    let within : length text ≤ 16777216 = omega (arith, c.requires, ap length c.as_bytes.ensures.value) in
    let lengths = c.finish.ensures.lengths text (c.in_ok-feed.ensures.read [] c.new-reader.ensures.read) in
    if_ok (HasLengthsUpTo (length text)) HasShortSpec c.finish.result
    (λ tree. c.read_trees_are_readable.ensures.version (length text) tree within) lengths
