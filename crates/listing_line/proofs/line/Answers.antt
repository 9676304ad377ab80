-- `listing_line::line` meets its contract. Assumes nothing.
use Prim.Native.Nat.{ℕ}
use Rattle.listing_line.specs.Line.{refused_line}
use mathlib.Core.Path.{sym, ap, ◌∙◌}
use lib.ListN.{length}
use lib.Seq.{sets}
use Rattle.compose.specs.View.{compose_says}
use Rattle.listing_line.specs.Line.{words_line}
use Rattle.listing_line.proofs.Lines.{no_room, written}
use Rattle.listing_line.proofs.line.Goals as goal

pub returns-then-out-lt-LINE_ROOM : goal.returns-then-out-lt-LINE_ROOM
returns-then-out-lt-LINE_ROOM g c = let told_here = no_room g.W.Listed.bits c.args.list.now c.args.out.now c.if-out-lt-LINE_ROOM.true in record { answer = told_here.0; bytes = told_here.1.0; within = told_here.1.1 }

pub returns-in-Ok : goal.returns-in-Ok
returns-in-Ok g c =
    let e = ap words_line c.words_from_layout.ensures in
    let p = c.put_words.ensures.value in let told_here = written g.W.Listed.bits c.args.list.now c.args.out.now _ _ _ c.if-out-lt-LINE_ROOM.false (sym (ap compose_says c.in-Ok.is) ∙ c.compose_list.ensures)
    (p.0 ∙ ap length e, p.1 ∙ ap (sets c.args.out.now 0) e) c.put_words.ensures.upper_bound in record { answer = told_here.0; bytes = told_here.1.0; within = told_here.1.1 }

pub returns-in-Err : goal.returns-in-Err
returns-in-Err g c =
    let e = ap (λ (n : ℕ). refused_line n c.in-Err.at.place) c.number.ensures in
    let p = c.put_refusal.ensures.value in
    let told_here = written g.W.Listed.bits c.args.list.now c.args.out.now _ _ _ c.if-out-lt-LINE_ROOM.false (sym (ap compose_says c.in-Err.is) ∙ c.compose_list.ensures)
    (p.0 ∙ ap length e, p.1 ∙ ap (sets c.args.out.now 0) e) c.put_refusal.ensures.upper_bound in
    record { answer = told_here.0; bytes = told_here.1.0; within = told_here.1.1 }
