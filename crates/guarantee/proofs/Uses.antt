-- Uses of demand 3. Assumes nothing.
use mathlib.Core.Path.{◌≡◌, refl, ap, ◌∙◌}
use mathlib.Core.Bool.{true, false}
use Prim.Native.Nat.{ℕ, ◌+◌, ◌%◌, ◌≤◌}
use lib.Dec.{lit<}
use native.Mathlib.Omega.{arith}
use Rattle.util_defs.specs.Width.{M}
use Rattle.util_defs.specs.Power.{power_of_two}
use Rattle.util_defs.specs.Round.{up, down}
use Rattle.util_defs.specs.Refusal.{Outcome, answered, unless}
use Rattle.rounding.specs.Word.{highest_bit}
use Rattle.trailing_defs.specs.Size.{size_with}
use Rattle.trailing_defs.specs.Count.{bytes_within, count_within}
use Rattle.trailing_defs.specs.Sequence.{same_sequence}
use Rattle.trailing_defs.specs.Calls.{advanced}
use Rattle.layout_defs.specs.Layout.{trailing, Layout, IsCount, size_in}
use Rattle.cast_defs.specs.Cast.{Greatest, Grant, count_in, cast_for}
use Rattle.cast_defs.specs.Exact.{exact_for}
use Rattle.cast_defs.proofs.Grants.{greatest_in, one_greatest}
use Rattle.shift_defs.specs.Match.{Comparison, match_test}
use Rattle.shift_defs.specs.Shift.{shift_of}
use Rattle.convert_defs.specs.Convert.{Params, unsized_to_unsized, compute_for, converted}
use Rattle.convert_defs.proofs.Conversions.{compute_sound}
use Rattle.guarantee.specs.Demand.{Answers, Accepts, Hold, CastKeeps, Demand3Of}

-- what demand 3 gives of any answers, field by field
pub demand_3_gives : {w : ℕ} {same : Comparison} (s t : Layout) (q : Params) (n addr len more : ℕ) (r : Answers)
    → Demand3Of w same s t n addr len more r → Accepts w same s t q → IsCount s.info n → size_in w s.info n ≤ M w
    → size_in w s.info n ≤ len → addr % t.align ≡ 0 → addr + len ≤ M w → len ≤ more → addr + more ≤ M w
    → (r.count ≡ answered (converted q n)) × ((size_in w t.info (converted q n) ≡ size_in w s.info n)
    × ((g h : ℕ) × ((r.first ≡ answered (record { count = g; split = size_in w t.info g }))
    × ((r.second ≡ answered (record { count = h; split = size_in w t.info h })) × ((converted q n ≤ g) × (g ≤ h))))))
demand_3_gives {w} s t q n addr len more r d acc is fits l al f m g =
    let k = d q acc is fits in
    let h : Hold w s t n addr len = record { size = l; aligned = al; within = f } in
    (k.back, (k.size, ((k.first h).count, (k.second h m g).count, ((k.first h).outcome, ((k.second h m g).outcome, ((k.first h).keeps, (k.second h m g).keeps))))))

-- document 01's source b 8, word 4, e 4 and target b 4, word 2, e 2 (alignments 4, 2): d 2, k 2
abbrev source : Layout
source = record { align = 4; info = trailing (record { offset = 0; elem = 4; base = 8; word = 4 }); mark = true; modifier = false }

abbrev target : Layout
target = record { align = 2; info = trailing (record { offset = 0; elem = 2; base = 4; word = 2 }); mark = true; modifier = false }

accepts : Accepts 64 (same_sequence 64) source target (unsized_to_unsized 2 2)
unfolding power_of_two up down highest_bit size_with bytes_within count_within same_sequence advanced cast_for exact_for match_test shift_of compute_for unless
accepts = record {
  source = ((λ n. n (record { exponent = 2; power = refl })), ((λ z. omega arith), tt));
  target = ((λ n. n (record { exponent = 1; power = refl })), ((λ z. omega arith), tt));
  converts = compute_sound 64 (same_sequence 64) source target (unsized_to_unsized 2 2) (lit< tt) (lit< tt) (lit< tt) refl;
}

-- the greatest count in so many bytes, and its size
grant_is : (L n s : ℕ) → Greatest 64 target.info L n → size_in 64 target.info n ≡ s → (least : ℕ) {o : Outcome Grant} → CastKeeps 64 target L least o
    → o ≡ answered (record { count = n; split = s })
grant_is L n s g e least k =
    k.outcome ∙ ap (λ (c : ℕ). answered (record { count = c; split = size_in 64 target.info c })) (one_greatest k.greatest g)
    ∙ ap (λ (z : ℕ). answered (record { count = n; split = z })) e

greatest_at : (L : ℕ) → size_in 64 target.info 0 ≤ L → Greatest 64 target.info L (count_in 64 target.info L)
greatest_at L l = greatest_in 64 target.info L (lit< tt) (λ z. omega arith) (λ z. omega arith) l

-- whatever answers demand 3 holds of, at these numbers they are these: three elements have 20 bytes, and the casts 23 and 30, so that
-- neither length is the size, nor the second the first
pub demand_3_used : (r : Answers) → Demand3Of 64 (same_sequence 64) source target 3 2 23 30 r
    → (r.computed ≡ answered (unsized_to_unsized 2 2)) × ((r.count ≡ answered 8)
    × ((r.first ≡ answered (record { count = 9; split = 22 })) × (r.second ≡ answered (record { count = 13; split = 30 }))))
unfolding up down highest_bit size_with bytes_within count_within
demand_3_used r d =
    let k = d (unsized_to_unsized 2 2) accepts tt (omega arith) in
    let h : Hold 64 source target 3 2 23 = record { size = omega arith; aligned = refl; within = omega arith } in (
      k.accepted,
      (
        k.back,
        (
          grant_is 23 9 22 (greatest_at 23 (omega arith)) refl 8 (k.first h),
          grant_is 30 13 30 (greatest_at 30 (omega arith)) refl (k.first h).count (k.second h (omega arith) (omega arith)),
        ),
      ),
    )
