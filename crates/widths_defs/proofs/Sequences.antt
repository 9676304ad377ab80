-- Two trailing layouts compared at v bits, by w, by the ported comparison. Assumes nothing.
use mathlib.Core.Path.{◌≡◌, refl, sym, ap, ap₂, ◌∙◌}
use mathlib.Core.Bool.{Bool, true, false, ◌&&◌}
use mathlib.Core.List.{[]}
use Prim.Native.Nat.{ℕ, ◌-◌, ◌^◌, ◌≤◌, ◌<◌}
use native.Mathlib.Omega.{arith}
use lib.Pow.{pow_mono}
use lib.Dec.{eqb}
use Rattle.util_defs.specs.Width.{M}
use Rattle.util_defs.specs.Refusal.{answered, unless, Tells, holds, fails}
use Rattle.util_defs.proofs.Refusals.{agree, told_false, tells_eq, tells_le, tells_as}
use Rattle.trailing_defs.specs.Size.{Trailing, size_at, HasSize}
use Rattle.trailing_defs.specs.Sequence.{same_stride, same_sequence}
use Rattle.trailing_defs.specs.Calls.{same_causes, same_for}
use Rattle.trailing_defs.proofs.Sequences.{tells_start, tells_same}
use Rattle.trailing_defs.proofs.Sized.{given_size, given_none}
use Rattle.widths_defs.specs.Within.{is_sized, has_start, same_within}
use Rattle.widths_defs.proofs.Widths.{same_highest, tables}
use Rattle.widths_defs.proofs.Sizes.{same_at}

-- the ported comparison: the same, where the first layout has a size at 0 at v
pub same_sequence_lem : (v w : ℕ) (s t : Trailing) → v ≤ w → s.word < 2 ^ v → t.word < 2 ^ v → HasSize v s 0 → same_sequence v s t ≡ same_sequence w s t
unfolding same_sequence
same_sequence_lem v w s t l hs ht start =
    let m : 2 ^ v ≤ 2 ^ w = pow_mono l in
    let S = same_at v w s 0 l hs in
    let T = same_at v w t 0 l ht in
    ap₂ (λ (b c : Bool). eqb s.elem t.elem && (b && c))
    (agree (tells_start v s t)
    (tells_as (λ x. (start, (omega (arith, x.1.1, S, T, start), omega (arith, x.1.1, S, T))))
    (λ x. (omega (arith, S, start), (omega (arith, T, x.1.0), omega (arith, x.1.1, S, T)))) (tells_start w s t)))
    (ap₂ (λ (a b : ℕ). same_stride s.elem a (s.word - a) b (t.word - b)) (same_highest v w s.word l hs) (same_highest v w t.word l ht))

-- whether there is a size at 0
pub start_true : (v : ℕ) (t : Trailing) → 0 < t.word → t.word < 2 ^ v → HasSize v t 0 → has_start v t ≡ true
start_true v t pos h x = ap is_sized (given_size v t 0 pos h x)

pub start_false : (v : ℕ) (t : Trailing) → 0 < t.word → (HasSize v t 0 → ⊥) → has_start v t ≡ false
start_false v t pos n = ap is_sized (given_none v t 0 pos (omega (arith, n)))

-- `has_same_size_sequence`: yes at w, and the first one has a size at 0 at v
pub same_narrows : (v w : ℕ) (s t : Trailing) → v ≤ w → s.word < 2 ^ v → t.word < 2 ^ v → same_for v s t ≡ same_within (has_start v s) (same_for w s t)
unfolding same_for unless
same_narrows v w s t l hs ht =
    tables (same_within (has_start v s)) (λ k. refl) (same_causes s t) (same_causes s t) [] [] (same_sequence v s t) (same_sequence w s t)
    ((refl, refl), ((refl, refl), tt)) (tells_eq s.word 0, λ _. (tells_eq t.word 0, λ _. tt))
    (λ n. ap answered (go (omega (arith, n.0)) (tells_le (size_at v s 0) (M v))))
  where
    go : 0 < s.word → {b : Bool} → Tells (HasSize v s 0) b → same_sequence v s t ≡ (has_start v s && same_sequence w s t)
    go pos (holds x) = same_sequence_lem v w s t l hs ht x ∙ sym (ap (λ (b : Bool). b && same_sequence w s t) (start_true v s pos hs x))
    go pos (fails n) = told_false (tells_same v s t) (λ c. n c.start.0) ∙ sym (ap (λ (b : Bool). b && same_sequence w s t) (start_false v s pos n))
