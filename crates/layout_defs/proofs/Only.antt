-- Each meaning of the functions of layouts is had by one answer at most. Assumes nothing.
use mathlib.Core.Path.{◌≡◌, sym, ap, ◌∙◌, subst}
use mathlib.Core.Bool.{true}
use Prim.Native.Nat.{ℕ}
use native.Mathlib.Omega.{arith}
use Rattle.util_defs.specs.Refusal.{Tells}
use Rattle.util_defs.proofs.Refusals.{agree}
use Rattle.util_defs.proofs.Only.{one_larger}
use Rattle.layout_defs.specs.Layout.{fixed, Layout}
use Rattle.layout_defs.specs.Extend.{member_align, placed_at, LeastPlace, Extended}

pub one_place : {s a q r : ℕ} → LeastPlace s a q → LeastPlace s a r → q ≡ r
one_place {s} {a} {q} {r} g h = omega (arith, g.least r h.after h.aligned, h.least q g.after g.aligned)

-- a fixed layout has one size
one_size : {s r : ℕ} → fixed s ≡ fixed r → s ≡ r
one_size e = cc

pub one_extended : {l m : Layout} {packing : ℕ} (r s : Layout) → Extended l m packing r → Extended l m packing s → r ≡ s
one_extended {l} {m} {packing} r s x y = λ i. record {
  align = one_larger x.align y.align i;
  info = (x.info ∙ ap (λ (q : ℕ). placed_at q m.info) place ∙ sym y.info) i;
  mark = agree x.mark both i;
  modifier = agree x.modifier y.modifier i;
}
  where
    size : y.size ≡ x.size
    size = one_size (sym y.after ∙ x.after)

    place : x.place ≡ y.place
    place = one_place x.least (subst (λ (z : ℕ). LeastPlace z (member_align m.align packing) y.place) size y.least)

    both : Tells ((l.mark ≡ true) × ((m.mark ≡ true) × (x.place ≡ x.size))) s.mark
    both =
        subst (λ (z : ℕ). Tells ((l.mark ≡ true) × ((m.mark ≡ true) × (z ≡ x.size))) s.mark) (sym place)
        (subst (λ (z : ℕ). Tells ((l.mark ≡ true) × ((m.mark ≡ true) × (y.place ≡ z))) s.mark) size y.mark)
