-- `sums::sums_of_counts32` meets its contract. Assumes nothing.
use mathlib.Core.Path.{refl, sym, ap, ap₂, subst, ◌∙◌}
use Prim.Native.Nat.{ℕ, ◌^◌, ◌<◌}
use lib.ListN.{length}
use Rattle.std.proofs.Common.{rules}
use Rattle.std.proofs.lemmas.List.{map-id}
use Rattle.share_defs.specs.Totals.{no_totals, totals_from}
use Rattle.sums.specs.Bits.{bits_to}
use Rattle.util_defs.proofs.Mapped.{mapped_ok, mapped_err}
use Rattle.util.specs.View.{number_of}
use Rattle.util.proofs.Told.{handed_on_at}
use Rattle.util_defs.specs.Placed.{stopped}
use Rattle.util_defs.specs.Width.{M}
use Rattle.trailing.specs.View.{trailing_of}
use Rattle.share_defs.specs.Share.{sums_for}
use Rattle.sums.specs.View.{TestMeans}
use Rattle.sums.proofs.Widths.{bits_32, tested_sums}
use Rattle.trailing_defs.specs.Size.{Trailing}
use Rattle.sums.proofs.sums_of_counts32.Goals as goal

pub test-requires : goal.test-requires
test-requires c = (ap M (sym bits_32), subst (λ (w : ℕ). (trailing_of c.wide_tail-wide.result).word < 2 ^ w) (sym bits_32) (subst (λ (t : Trailing). t.word < 2 ^ 32) (sym c.wide_tail-wide.ensures.0) c.wide_tail-wide.ensures.1.word))

pub returns : goal.returns
returns c =
    let t = trailing_of c.wide_tail-wide.result in
    let s = c.args.counts.now in
    let m = subst (TestMeans t (M 32) (length s)) (mapped_ok c.test.result _ _ c.map_err.ensures.cases c.in_ok-l.was) c.test.ensures in
    c.add_counts.ensures
    ∙ ap (λ ns. totals_from (bits_to c.in_ok-l.l.max) (trailing_of c.in_ok-l.l.decoded.layout) 0 ns no_totals) (map-id s) ∙ tested_sums c.in_ok-l.l 32 (M 32) t s m bits_32 ∙ ap (λ (u : Trailing). sums_for 32 u s) c.wide_tail-wide.ensures.0

pub returns-in_err-l : goal.returns-in_err-l
returns-in_err-l c =
    let m = mapped_err c.test.result _ _ (λ e. record { refusal = e; place = 0 }) (λ e q. search rules) c.map_err.ensures.cases c.in_err-l.was in
    let t = trailing_of c.wide_tail-wide.result in
    let s = c.args.counts.now in
    let h = subst (TestMeans t (M 32) (length s)) m.1 c.test.ensures in
    handed_on_at _ c.from_residual.result _ c.from_residual.ensures.1
    (ap (λ k. stopped (number_of k.refusal) k.place) m.2 ∙ h s refl ∙ ap₂ (λ (w : ℕ) (u : Trailing). sums_for w u s) bits_32 c.wide_tail-wide.ensures.0)
