use Rattle.std.proofs.Common.{List, length, sym, subst}
use Rattle.plane.specs.declared.point.Point.{Point}
use Rattle.plane.specs.Directions.{Differ, west}
use Rattle.face_walks.specs.declared.headings.Heading.{Heading}
use Rattle.face_walks.specs.Headings.{lead}
use Rattle.face_walks.specs.Outside.{IsLeastPoint, IsOutsideHalf}
use Rattle.face_walks.specs.Rings.{half_at, ring_at}
use Rattle.face_walks.proofs.Assembling.{apart, held, out, used, west_differs}
use Rattle.face_walks.proofs.Walked.{faces_are, is_linked, outer_is, within}
use Rattle.face_walks.proofs.walking.linked_walks.Goals as goal

pub outside_half-outside-requires-clause-used : goal.outside_half-outside-requires-clause-used
outside_half-outside-requires-clause-used g c =
    let m = c.requires.made in
    used g.W.Whole.numbers c.args.drawing.now c.requires.well_set c.args.parts.arena m.pairs c.args.parts.headings.items m.headed c.args.parts.rings m.as_many m.ringed

pub outside_half-outside-requires-clause-differ : goal.outside_half-outside-requires-clause-differ
outside_half-outside-requires-clause-differ g c = λ v n least inside.
    let m = c.requires.made in
    subst (λ (hs : List (Heading g.row.W.Denot)). Differ g.W.Whole.numbers.ring (west g.W.Whole.numbers.ops) (lead g.W.Whole.numbers.ring hs (half_at (ring_at c.args.parts.rings v) n)))
    (sym c.as_slice-2.ensures.value)
    (west_differs g.W.Whole.numbers c.args.drawing.now c.requires.well_set c.args.parts.arena m.pairs c.args.parts.headings.items m.headed c.args.parts.rings m.as_many m.ringed v n
    (subst (λ (ps : List (Point g.row.W.Denot)). IsLeastPoint g.W.Whole.numbers.ring ps (length ps) v) c.as_slice.ensures least) inside)

pub outside_half-outside-requires-clause-apart : goal.outside_half-outside-requires-clause-apart
outside_half-outside-requires-clause-apart g c = λ v i j l li lj other.
    let m = c.requires.made in
    subst (λ (hs : List (Heading g.row.W.Denot)). Differ g.W.Whole.numbers.ring (lead g.W.Whole.numbers.ring hs (half_at (ring_at c.args.parts.rings v) i))
    (lead g.W.Whole.numbers.ring hs (half_at (ring_at c.args.parts.rings v) j)))
    (sym c.as_slice-2.ensures.value)
    (apart g.W.Whole.numbers c.args.drawing.now c.requires.well_set c.args.parts.arena m.pairs c.args.parts.headings.items m.headed c.args.parts.rings m.as_many m.ringed v i j l li lj other)

pub link-requires-clause-outgoing : goal.link-requires-clause-outgoing
link-requires-clause-outgoing g c =
    let m = c.requires.made in
    out g.W.Whole.numbers c.args.drawing.now c.requires.well_set c.args.parts.arena m.pairs c.args.parts.headings.items m.headed c.args.parts.rings m.as_many m.ringed

pub link-requires-clause-reversed : goal.link-requires-clause-reversed
link-requires-clause-reversed g c = (held g.W.Whole.numbers c.args.drawing.now c.requires.well_set c.args.parts.arena c.requires.made.pairs).reversed

pub cycles_of-requires-clause-once : goal.cycles_of-requires-clause-once
cycles_of-requires-clause-once g c =
    (is_linked g.W.Whole.numbers c.args.drawing.now c.requires.well_set c.args.parts.arena c.args.parts.headings.items c.args.parts.rings c.requires.made
    c.link.new.arena c.len-count.ensures.arena c.link.ensures.payloads c.link.ensures.as_many c.link.ensures.round).holds.once

pub returns-clause-linked : goal.returns-clause-linked
returns-clause-linked g c =
    is_linked g.W.Whole.numbers c.args.drawing.now c.requires.well_set c.args.parts.arena c.args.parts.headings.items c.args.parts.rings c.requires.made
    c.link.new.arena c.len-count.ensures.arena c.link.ensures.payloads c.link.ensures.as_many c.link.ensures.round

pub returns-clause-faces : goal.returns-clause-faces
returns-clause-faces g c =
    let out : IsOutsideHalf g.W.Whole.numbers.ring c.args.drawing.now.vertices c.args.parts.rings c.args.parts.headings.items c.outside_half-outside.result.0
    = subst (λ (ps : List (Point g.row.W.Denot)). IsOutsideHalf g.W.Whole.numbers.ring ps c.args.parts.rings c.args.parts.headings.items c.outside_half-outside.result.0) c.as_slice.ensures
    (subst (λ (hs : List (Heading g.row.W.Denot)). IsOutsideHalf g.W.Whole.numbers.ring c.as_slice.result.now c.args.parts.rings hs c.outside_half-outside.result.0)
    c.as_slice-2.ensures.value c.outside_half-outside.ensures) in
    faces_are g.W.Whole.numbers c.args.drawing.now c.requires.well_set c.args.parts.arena c.args.parts.headings.items c.args.parts.rings c.requires.made
    c.link.new.arena c.len-count.ensures.arena c.link.ensures.payloads c.link.ensures.as_many c.link.ensures.round
    c.outside_half-outside.result.0 out c.in_ok-faces.faces c.in_ok-faces.outer.corners c.in_ok-faces.ensures

pub returns-clause-outer : goal.returns-clause-outer
returns-clause-outer g c =
    let out : IsOutsideHalf g.W.Whole.numbers.ring c.args.drawing.now.vertices c.args.parts.rings c.args.parts.headings.items c.outside_half-outside.result.0
    = subst (λ (ps : List (Point g.row.W.Denot)). IsOutsideHalf g.W.Whole.numbers.ring ps c.args.parts.rings c.args.parts.headings.items c.outside_half-outside.result.0) c.as_slice.ensures
    (subst (λ (hs : List (Heading g.row.W.Denot)). IsOutsideHalf g.W.Whole.numbers.ring c.as_slice.result.now c.args.parts.rings hs c.outside_half-outside.result.0)
    c.as_slice-2.ensures.value c.outside_half-outside.ensures) in
    outer_is g.W.Whole.numbers c.args.drawing.now c.requires.well_set c.args.parts.arena c.args.parts.headings.items c.args.parts.rings c.requires.made
    c.link.new.arena c.len-count.ensures.arena c.link.ensures.payloads c.link.ensures.as_many c.link.ensures.round
    c.outside_half-outside.result.0 out c.in_ok-faces.faces c.in_ok-faces.outer.corners c.in_ok-faces.ensures

pub returns-clause-within : goal.returns-clause-within
returns-clause-within g c =
    let out : IsOutsideHalf g.W.Whole.numbers.ring c.args.drawing.now.vertices c.args.parts.rings c.args.parts.headings.items c.outside_half-outside.result.0
    = subst (λ (ps : List (Point g.row.W.Denot)). IsOutsideHalf g.W.Whole.numbers.ring ps c.args.parts.rings c.args.parts.headings.items c.outside_half-outside.result.0) c.as_slice.ensures
    (subst (λ (hs : List (Heading g.row.W.Denot)). IsOutsideHalf g.W.Whole.numbers.ring c.as_slice.result.now c.args.parts.rings hs c.outside_half-outside.result.0)
    c.as_slice-2.ensures.value c.outside_half-outside.ensures) in
    within g.W.Whole.numbers c.args.drawing.now c.requires.well_set c.args.parts.arena c.args.parts.headings.items c.args.parts.rings c.requires.made
    c.link.new.arena c.len-count.ensures.arena c.link.ensures.payloads c.link.ensures.as_many c.link.ensures.round
    c.outside_half-outside.result.0 out c.in_ok-faces.faces c.in_ok-faces.outer.corners c.in_ok-faces.ensures
