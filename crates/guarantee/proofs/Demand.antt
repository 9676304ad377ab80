-- Demand 3 holds, at any width, of any comparison of which a yes means equal sizes at every count. Assumes nothing.
use mathlib.Core.Path.{◌≡◌, ap, ◌∙◌}
use Prim.Native.Nat.{ℕ, ◌+◌, ◌%◌, ◌^◌, ◌≤◌, ◌<◌}
use lib.Dec.{lit<}
use borrow.Author.Tests.{le-ltb}
use native.Mathlib.Omega.{arith}
use Rattle.util_defs.specs.Width.{M}
use Rattle.util_defs.specs.Refusal.{Outcome, answered, unless, None}
use Rattle.util_defs.proofs.Refusals.{clear}
use Rattle.util_defs.proofs.Tables.{both_none}
use Rattle.trailing_defs.specs.Size.{A, p}
use Rattle.layout_defs.specs.Layout.{marks, Info, fixed, trailing, Layout, IsCount, size_in, no_word, layout_causes}
use Rattle.cast_defs.specs.Cast.{prefix, Grant, count_in, IsElemZero, bytes_causes, cast_causes, cast_for}
use Rattle.cast_defs.proofs.Grants.{align_pos, greatest_in, cast_decided}
use Rattle.trailing_defs.proofs.Sizes.{count_mono}
use Rattle.shift_defs.specs.Match.{Comparison, Sound}
use Rattle.shift_defs.specs.Mode.{Mode, comparison_of}
use Rattle.shift_defs.proofs.Matching.{mode-sound}
use Rattle.convert_defs.specs.Convert.{Params}
use Rattle.convert_defs.specs.Convert.{compute_for, converted, metadata_for}
use Rattle.convert_defs.proofs.Conversions.{compute_accepts}
use Rattle.convert_defs.proofs.Counts.{count_kept}
use Rattle.guarantee.specs.Demand.{Answers, Hold, CastKeeps, Kept, Demand3, count_after, answers_of}

-- the size at 0 is the least
first_le : (w : ℕ) (i : Info) (c : ℕ) → 0 < w → ((no_word i).means → ⊥) → size_in w i 0 ≤ size_in w i c
first_le w (fixed s) c pos nw = omega arith
first_le w (trailing t) c pos nw = count_mono w t 0 c (align_pos w t pos nw) (omega arith)

-- a prefix cast of t, whose elements have a size, over the size of a count c or more is granted the greatest count, no lower than c
cast_keeps : (w : ℕ) (t : Layout) (addr : ℕ) → 0 < w → t.align < 2 ^ w → None (layout_causes w t) → (IsElemZero t.info → ⊥)
    → addr % t.align ≡ 0 → (c L : ℕ) → IsCount t.info c → size_in w t.info c ≤ L → addr + L ≤ M w
    → CastKeeps w t L c (cast_for w t prefix addr L)
unfolding cast_for
cast_keeps w t addr pos h ok ne al c L is l f =
    let g = greatest_in w t.info L pos ok.1.0 ne (omega (arith, first_le w t.info c pos ok.1.0)) in
    let free : None (bytes_causes w t prefix addr L) = (ne, ((λ x. omega arith), ((λ x. x al), ((λ x. x c is l), tt)))) in
    record {
      count = count_in w t.info L;
      outcome =
          clear (cast_causes w t prefix addr L) (cast_decided w t prefix addr L h pos)
          (both_none (layout_causes w t) (bytes_causes w t prefix addr L) ok free);
      greatest = g;
      keeps = g.greatest c is l;
    }

-- so a converted count of the same size keeps what demand 3 asks
kept : (w : ℕ) (same : Comparison) (s t : Layout) (q : Params) (n addr len more : ℕ) → 0 < w → t.align < 2 ^ w
    → None (layout_causes w t) → compute_for w same s t ≡ answered q → (IsElemZero t.info → ⊥)
    → converted q n ≤ M w → IsCount t.info (converted q n) → size_in w t.info (converted q n) ≡ size_in w s.info n
    → Kept w s t q n addr len more (answers_of w same s t n addr len more)
unfolding metadata_for unless
kept w same s t q n addr len more pos ht ok e ne fits is size = record {
  accepted = e;
  fits = fits;
  back = ap (λ (o : Outcome Params). count_after w o n) e ∙ simp (le-ltb (M w) (converted q n) fits);
  count = is;
  size = size;
  first = holds;
  second = λ h l f.
      cast_keeps w t addr pos ht ok ne h.aligned (holds h).count more (holds h).greatest.count (omega (arith, (holds h).greatest.fits)) f;
}
  where
    holds : Hold w s t n addr len → CastKeeps w t len (converted q n) (cast_for w t prefix addr len)
    holds h = cast_keeps w t addr pos ht ok ne h.aligned (converted q n) len is (omega (arith, h.size)) h.within

pub demand_3 : (w : ℕ) (same : Comparison) → 0 < w → Sound w same → Demand3 w same
demand_3 w same pos sound s t n addr len more hs ht q acc is fits =
    let e = compute_accepts w same s t q hs.align ht.align pos acc.source acc.target acc.converts in
    let c = count_kept w same s.align t.align (marks s) (marks t) n pos sound hs ht acc.source acc.target acc.converts.kinds fits in
    kept w same s t q n addr len more pos ht.align acc.target e c.elem c.fits c.count c.size

-- demand 3 of every mode, each with its own match
pub demand_3_modes : (w : ℕ) → 0 < w → (m : Mode) → Demand3 w (comparison_of w m)
demand_3_modes w pos m = demand_3 w (comparison_of w m) pos (mode-sound w m)

pub demand_3_at_64 : (m : Mode) → Demand3 64 (comparison_of 64 m)
demand_3_at_64 = demand_3_modes 64 (lit< tt)

pub same_answers : {a b : Outcome Params} {m n : Outcome ℕ} {f g h k : Outcome Grant} → a ≡ b → m ≡ n → f ≡ g → h ≡ k
    → ◌≡◌ {A = Answers} (record { computed = a; count = m; first = f; second = h }) (record { computed = b; count = n; first = g; second = k })
same_answers p q r s = λ i. record { computed = p i; count = q i; first = r i; second = s i }
