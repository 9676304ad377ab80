-- `full::decoded_form` meets its contract. Assumes nothing.
use Rattle.std.proofs.Common.{ℕ, ◌+◌, ◌-◌, ◌%◌, sym, ap, ◌∙◌, arith}
use Rattle.util_defs.specs.Round.{up}
use Rattle.util_defs.specs.Refusal.{answered}
use Rattle.rounding.proofs.Words.{not_zero}
use Rattle.trailing.specs.View.{trailing_of}
use Rattle.trailing_defs.specs.Size.{size_at}
use Rattle.full_defs.specs.Full.{lowest_bit, seen_phase}
use Rattle.full_defs.specs.Form.{form}
use Rattle.full_defs.proofs.Told.{form_whole, form_zero, form_least, form_given}
use Rattle.full.proofs.decoded_form.Goals as goal

pub form_at_zero-requires : goal.form_at_zero-requires
form_at_zero-requires c =
    let t = trailing_of c.args.decoded.layout in
    form_whole 64 t c.args.decoded.is_word (omega arith) (ap (λ (a : ℕ). t.elem % a) (sym c.align-align.ensures) ∙ sym c.remainder.ensures ∙ c.if-remainder-eq0.true)

pub seen_phase-requires : goal.seen_phase-requires
seen_phase-requires c = (omega (arith, c.align-align.ensures, c.args.decoded.is_word.below), λ e. c.if-remainder-eq0.false (c.remainder.ensures ∙ e))

pub form_at_zero-requires-then-seen_phase-eq0 : goal.form_at_zero-requires-then-seen_phase-eq0
form_at_zero-requires-then-seen_phase-eq0 c =
    let t = trailing_of c.args.decoded.layout in
    let d = c.align-align.ensures in
    let s = λ (a : ℕ). seen_phase 64 t.elem a c.args.decoded.parts.phase in
    form_zero 64 t c.args.decoded.is_word (omega arith) (λ e. c.if-remainder-eq0.false (c.remainder.ensures ∙ ap (λ (a : ℕ). t.elem % a) d ∙ e)) (ap s (sym d) ∙ sym c.seen_phase.ensures ∙ c.if-seen_phase-eq0.true)
    ∙ ap (λ (a : ℕ). form (size_at 64 t 0) a t.elem) (sym d)

pub least_word-requires : goal.least_word-requires
least_word-requires c = (
  omega (arith, c.align-align.ensures, c.args.decoded.is_word.below),
  (λ e. c.if-remainder-eq0.false (c.remainder.ensures ∙ e)),
  (λ e. c.if-seen_phase-eq0.false (c.seen_phase.ensures ∙ e)),
)

pub returns : goal.returns
returns c =
    let t = trailing_of c.args.decoded.layout in
    let d = c.align-align.ensures in
    let q = c.args.decoded.parts.phase in
    let f =
    form_least 64 t c.args.decoded.is_word (omega arith) (λ e. c.if-remainder-eq0.false (c.remainder.ensures ∙ ap (λ (a : ℕ). t.elem % a) d ∙ e))
    (λ e. c.if-seen_phase-eq0.false (c.seen_phase.ensures ∙ ap (λ (a : ℕ). seen_phase 64 t.elem a q) d ∙ e)) in
    ap (λ (n : ℕ). answered (form t.base n t.elem)) (c.least_word.ensures ∙ ap (λ (a : ℕ). a + (up q (lowest_bit 64 t.elem) - lowest_bit 64 t.elem + 1)) d)
    ∙ sym (form_given 64 t _ (not_zero c.args.decoded.is_word) f (omega arith))
