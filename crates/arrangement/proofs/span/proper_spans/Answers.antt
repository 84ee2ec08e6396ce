use Rattle.arrangement.proofs.Looping.{read_in}
use Rattle.arrangement.proofs.span.proper_spans.Goals as goal

pub push_span-requires : goal.push_span-requires
push_span-requires g c =
    c.requires c.segment-item.result (read_in c.args.segments.now c.loop-segment.segment-index c.segment-item.result c.loop-segment-test.true c.segment-item.is)
