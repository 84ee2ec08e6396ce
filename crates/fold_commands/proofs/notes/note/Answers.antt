use Rattle.std.proofs.Common.{◌≡◌, rules, inr, sym, subst}
use Rattle.fold_base.specs.Outside.{Gains}
use Rattle.fold_commands.specs.Status.{IsAnswer}
use Rattle.fold_commands.specs.Notes.{GainsFront, note_line}
use Rattle.fold_commands.specs.declared.status.Status.{Status}
use Rattle.fold_commands.proofs.notes.note.Goals as goal

pub returns-in-Memory : goal.returns-in-Memory
returns-in-Memory g c = record {
  quiet = λ h. absurd (subst IsAnswer c.in-Memory.is h);
  line = subst (λ (s : Status). GainsFront (g.E.Sink.written c.args.notes.now) (g.E.Sink.written c.put_line.new.notes) (note_line s)) (sym c.in-Memory.is) c.put_line.ensures.front;
  whole = λ calm. inr (subst (λ (s : Status). Gains (g.E.Sink.written c.args.notes.now) (g.E.Sink.written c.put_line.new.notes) (note_line s)) (sym c.in-Memory.is) (c.put_line.ensures.whole calm));
}

pub returns-in-Ok : goal.returns-in-Ok
returns-in-Ok g c =
    let text : c.as_str.result.now ≡ note_line c.args.status.now = search rules in
    record {
      quiet = search rules;
      line = subst (GainsFront (g.E.Sink.written c.args.notes.now) (g.E.Sink.written c.put_line-in-Ok.new.notes)) text c.put_line-in-Ok.ensures.front;
      whole = λ calm. inr (subst (Gains (g.E.Sink.written c.args.notes.now) (g.E.Sink.written c.put_line-in-Ok.new.notes)) text (c.put_line-in-Ok.ensures.whole calm));
    }
