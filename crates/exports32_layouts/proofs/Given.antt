-- A layout that was handed over: accepted, the function is called on it; refused, the refusal is passed on. Assumes nothing.
use Rattle.util.specs.declared.refusal.Refusal.{Refusal}
use Rattle.std.specs.Prelude.{Err, Ok, Result}
use Rattle.layout.specs.View.{layout_of, layout_says}
use mathlib.Core.Path.{◌≡◌, sym, ap}
use Prim.Native.Nat.{ℕ}
use Rattle.util_defs.specs.Refusal.{Outcome, refused}
use Rattle.util.specs.View.{number_of}
use Rattle.util_defs.proofs.Tables.{told_by}
use Rattle.layout_defs.specs.Layout.{Layout}
use Rattle.layout.specs.declared.DstLayout.{DstLayout}
use Rattle.record_defs.specs.Record.{words_for}
use Rattle.exports_layouts.specs.Layouts.{bind_outcome}
use Rattle.exports32_layouts.specs.declared.Layout32.{Layout32}
use Rattle.exports32_layouts.specs.Layouts.{words_given32, with_layout32}

pub with_layout_lem : {T : Type 0} {x : DstLayout ℕ} (w : ℕ) (l : Layout32) (f : Layout → Outcome T) (r : Result (DstLayout ℕ) Refusal) → layout_says r ≡ words_for w (words_given32 l) → r ≡ Ok x
    → f (layout_of x) ≡ with_layout32 w l f
with_layout_lem {T} w l f r e g = ap (λ (o : Outcome Layout). bind_outcome o f) (sym (told_by layout_says e g))

pub with_refused : {T : Type 0} {k : Refusal} (w : ℕ) (l : Layout32) (f : Layout → Outcome T) (r : Result (DstLayout ℕ) Refusal) → layout_says r ≡ words_for w (words_given32 l) → r ≡ Err k
    → refused (number_of k) ≡ with_layout32 w l f
with_refused {T} w l f r e g = ap (λ (o : Outcome Layout). bind_outcome o f) (sym (told_by layout_says e g))
