-- `sums::sums_of_counts` meets its contract. Assumes nothing.
use mathlib.Core.Path.{refl, sym, ap, subst, ◌∙◌}
use Prim.Native.Nat.{ℕ, ◌^◌, ◌<◌}
use native.Mathlib.Omega.{arith}
use lib.ListN.{length}
use Rattle.std.proofs.Common.{rules}
use Rattle.std.proofs.lemmas.List.{map-id}
use Rattle.share_defs.specs.Totals.{no_totals, totals_from}
use Rattle.sums.specs.Bits.{bits_to}
use Rattle.util_defs.proofs.Mapped.{mapped_ok, mapped_err}
use Rattle.util.specs.View.{number_of}
use Rattle.util.proofs.Told.{handed_on_at}
use Rattle.util_defs.specs.Placed.{stopped}
use Rattle.util_defs.specs.Width.{M}
use Rattle.trailing.specs.View.{trailing_of}
use Rattle.share_defs.specs.Share.{sums_for}
use Rattle.sums.specs.View.{TestMeans}
use Rattle.sums.proofs.Widths.{bits_64, tested_sums}
use Rattle.sums.proofs.sums_of_counts.Goals as goal

pub test-requires : goal.test-requires
test-requires c = (ap M (sym bits_64), subst (λ (w : ℕ). (trailing_of c.args.layout).word < 2 ^ w) (sym bits_64) (omega arith))

pub returns : goal.returns
returns c =
    let t = trailing_of c.args.layout in
    let s = c.args.counts.now in
    let m = subst (TestMeans t (M 64) (length s)) (mapped_ok c.test.result _ _ c.map_err.ensures.cases c.in_ok-l.was) c.test.ensures in
    c.add_counts.ensures
    ∙ ap (λ ns. totals_from (bits_to c.in_ok-l.l.max) (trailing_of c.in_ok-l.l.decoded.layout) 0 ns no_totals) (map-id s) ∙ tested_sums c.in_ok-l.l 64 (M 64) t s m bits_64

pub returns-in_err-l : goal.returns-in_err-l
returns-in_err-l c =
    let m = mapped_err c.test.result _ _ (λ e. record { refusal = e; place = 0 }) (λ e q. search rules) c.map_err.ensures.cases c.in_err-l.was in
    let t = trailing_of c.args.layout in
    let s = c.args.counts.now in
    let h = subst (TestMeans t (M 64) (length s)) m.1 c.test.ensures in
    handed_on_at _ c.from_residual.result _ c.from_residual.ensures.1
    (ap (λ k. stopped (number_of k.refusal) k.place) m.2 ∙ h s refl ∙ ap (λ (w : ℕ). sums_for w t s) bits_64)
