-- A struct of scalars reads as the composition of their records. Assumes nothing.
use mathlib.Core.Path.{◌≡◌, refl, sym, ap, subst, ◌∙◌}
use mathlib.Core.List.{List, [], ◌∷◌, ◌++◌, map}
use Prim.Native.Nat.{ℕ, zero, suc, ◌+◌, ◌*◌, ◌/◌, ◌%◌, ◌^◌, ◌≤◌, ◌<◌}
use native.Mathlib.Nat.{mul-div_left, mul-mod_left}
use native.Mathlib.Omega.{arith}
use borrow.Author.Tests.{eq-eqb}
use lib.ListN.{length, take, drop, get_or, length-append, length-map}
use lib.Seq.{drop-cons, take-append_seam, drop-append_seam}
use Rattle.util_defs.specs.Width.{M}
use Rattle.util_defs.specs.Refusal.{answered}
use lib.Pow.{pow_pos}
use Rattle.util_defs.specs.Placed.{go_on}
use Rattle.layout_defs.specs.Layout.{Layout, check_for}
use Rattle.scalar.specs.Scalar.{Target, target64, scalar_layout}
use Rattle.record_defs.specs.Record.{record_bytes, words_of, decode_for, FitsIn}
use Rattle.record_defs.proofs.Records.{record_length_lem}
use Rattle.record_defs.proofs.RoundTrips.{Fits, layout_back, same_check}
use Rattle.words.specs.Bytes.{value_of}
use Rattle.compose_defs.specs.Compose.{Composed, composed, refused_at, Member, ported, members_of, struct_for}
use Rattle.compose_defs.specs.Places.{listed}
use Rattle.describe_defs.specs.Describe.{by_one, power_of, wholly, described_for}
use Rattle.describe_defs.specs.Grammar.{IsByte, Run, none, one, members, Header, a_code, a_scalar, Describes}
use Rattle.describe_defs.specs.Faults.{ScalarsAccepted}
use Rattle.describe_defs.specs.ByHand.{by_hand, Codes, of_codes, records_of, whole_by_hand, AsScalars}
use Rattle.describe_defs.proofs.Meaning.{as_by_records}
use Rattle.describe_defs.proofs.Accepted.{scalars64}

-- ---- records one behind the other: what each is
abbrev pub Recorded : ℕ → List Layout → Type 0
Recorded w [] = Unit {0}
Recorded w (l ∷ ls) = (decode_for w (record_bytes (words_of l)) ≡ answered l) × Recorded w ls

records_length : (ls : List Layout) → length (records_of ls) ≡ length ls * 48
unfolding records_of
records_length [] = refl
records_length (l ∷ ls) =
    length-append (record_bytes (words_of l)) (records_of ls)
    ∙ (let x : length (record_bytes (words_of l)) ≡ 48 = record_length_lem (words_of l) in let y = records_length ls in omega (arith, x, y))

first_record : (l : Layout) (s : List ℕ) → take 48 (record_bytes (words_of l) ++ s) ≡ record_bytes (words_of l)
first_record l s = ap (λ (n : ℕ). take n (record_bytes (words_of l) ++ s)) (sym (record_length_lem (words_of l))) ∙ take-append_seam (record_bytes (words_of l)) s

later_records : (l : Layout) (s : List ℕ) → drop 48 (record_bytes (words_of l) ++ s) ≡ s
later_records l s = ap (λ (n : ℕ). drop n (record_bytes (words_of l) ++ s)) (sym (record_length_lem (words_of l))) ∙ drop-append_seam (record_bytes (words_of l)) s

decoded : (w : ℕ) (ls : List Layout) → Recorded w ls → members_of w (length ls) (records_of ls) ≡ members ls
unfolding records_of members_of
decoded w [] h = refl
decoded w (l ∷ ls) h =
    ap (λ (s : List ℕ). decode_for w s ∷ members_of w (length ls) (drop 48 (record_bytes (words_of l) ++ records_of ls))) (first_record l (records_of ls))
    ∙ ap (λ (m : Member). m ∷ members_of w (length ls) (drop 48 (record_bytes (words_of l) ++ records_of ls))) h.0
    ∙ ap (λ (s : List ℕ). answered l ∷ members_of w (length ls) s) (later_records l (records_of ls))
    ∙ ap (λ (ms : List Member). answered l ∷ ms) (decoded w ls h.1)

records_listed : (w : ℕ) (ls : List Layout) → Recorded w ls → listed w (records_of ls) ≡ members ls
records_listed w ls h =
    let x : length (records_of ls) / 48 ≡ length ls = ap (λ (n : ℕ). n / 48) (records_length ls) ∙ mul-div_left (length ls) (omega arith) in
    ap (λ (n : ℕ). members_of w n (records_of ls)) x ∙ decoded w ls h

-- ---- codes one behind the other
module _ (w : ℕ) (target : Target) (s : List ℕ) where
  code_stands : (d t : ℕ) {b : ℕ} → IsByte s t b → b ≤ 8 → Describes w target d s t (t + 1) (scalar_layout target b)
  unfolding Describes
  code_stands zero t h g = a_code h g
  code_stands (suc d) t h g = a_scalar (a_code h g)

  codes_run : (d t : ℕ) (cs : List ℕ) → Codes cs → t + length cs ≡ length s → drop t s ≡ cs → Run (Describes w target d s) t (length s) (map (scalar_layout target) cs)
  codes_run d t [] h n e = subst (λ (j : ℕ). Run (Describes w target d s) t j []) (let x : t ≡ length s = omega (arith, n) in x) none
  codes_run d t (c ∷ cs) h n e =
      let x : t < length s = omega (arith, n) in
      let y : ◌≡◌ {A = List ℕ} (get_or s t 0 ∷ drop (suc t) s) (c ∷ cs) = sym (drop-cons s t 0 x) ∙ e in
      let a : get_or s t 0 ≡ c = cc in
      let b : drop (suc t) s ≡ cs = cc in
      let z : suc t ≡ t + 1 = omega arith in
      one (code_stands d t (record { within = x; is = a }) h.0)
      (codes_run d (t + 1) cs h.1 (omega (arith, n)) (subst (λ (i : ℕ). drop i s ≡ cs) z b))

-- ---- a scalar's record holds it: of the 64-bit target every size and every alignment is at most 8
abbrev Below : ℕ → List ℕ → Type 0
Below n [] = Unit {0}
Below n (x ∷ xs) = (x < n) × Below n xs

listed_below : (n : ℕ) → 0 < n → (xs : List ℕ) → Below n xs → (i : ℕ) → get_or xs i 0 < n
listed_below n z [] h i = z
listed_below n z (x ∷ xs) h zero = h.0
listed_below n z (x ∷ xs) h (suc i) = listed_below n z xs h.1 i

below64 : (b : ℕ) → b ≤ 8 → get_or target64.sizes b 0 < 256 ^ 8
below64 b h =
    listed_below (256 ^ 8) (omega arith) target64.sizes
    (omega arith, (omega arith, (omega arith, (omega arith, (omega arith, (omega arith, (omega arith, (omega arith, (omega arith, tt))))))))) b

fits64 : (b : ℕ) → b ≤ 8 → Fits (words_of (scalar_layout target64 b))
fits64 b h =
    let x = below64 b h in
    record { align = x; kind = omega arith; size = x; offset = omega arith; elem = omega arith; word = omega arith }

held64 : (b : ℕ) → b ≤ 8 → FitsIn 64 (words_of (scalar_layout target64 b))
held64 b h =
    let x : get_or target64.sizes b 0 ≤ M 64 = omega (arith, below64 b h) in
    record { align = x; size = x; offset = omega arith; elem = omega arith; word = omega arith }

-- ---- the struct of them
whole : (s : List ℕ) (c : Composed) → go_on (by_hand 0 (length s) c) (wholly s) ≡ whole_by_hand c
whole s (composed l) = rw (eq-eqb (length s) (length s) refl)
whole s (refused_at k place) = refl

module _ (w : ℕ) (target : Target) (good : ScalarsAccepted w target) (fits : (b : ℕ) → b ≤ 8 → Fits (words_of (scalar_layout target b)))
    (held : (b : ℕ) → b ≤ 8 → FitsIn w (words_of (scalar_layout target b))) where
  good_record : (b : ℕ) → b ≤ 8 → check_for 64 (scalar_layout target b) ≡ answered tt
  good_record b h =
      same_check 64 w (scalar_layout target b) (omega (arith, (fits b h).align)) (omega (arith, (held b h).align, pow_pos w)) ∙ good b h

  scalars_recorded : (cs : List ℕ) → Codes cs → Recorded w (map (scalar_layout target) cs)
  scalars_recorded [] h = tt
  scalars_recorded (c ∷ cs) h = (layout_back w (scalar_layout target c) (fits c h.0) (held c h.0) (good_record c h.0), scalars_recorded cs h.1)

  pub as_scalars : AsScalars w target
  unfolding described_for value_of
  as_scalars a p cs ha hp fa fp hc =
      let s = of_codes a p cs in
      let ms = map (scalar_layout target) cs in
      let n : length cs ≡ length ms = sym (length-map cs (scalar_layout target)) in
      let h : Header w s 0 by_one (power_of a) (power_of p) (length ms) = record {
        tag = record { within = omega arith; is = refl };
        aligned = record { byte = a; at = record { within = omega arith; is = refl }; most = ha; fits = fa; is = refl };
        packed = record { byte = p; at = record { within = omega arith; is = refl }; most = hp; fits = fp; is = refl };
        count = record { within = omega arith; is = let z : length cs + 256 * 0 ≡ length cs = omega arith in z ∙ n };
      } in
      let r : Run (Describes w target 15 s) 4 (length s) ms = codes_run w target s 15 4 cs hc (omega arith) refl in
      let e : length (records_of ms) % 48 ≡ 0 = ap (λ (k : ℕ). k % 48) (records_length ms) ∙ mul-mod_left (length ms) 48 in
      let x = as_by_records w target s 15 0 (length s) (power_of a) (power_of p) by_one ms (records_of ms) h r e (records_listed w ms (scalars_recorded cs hc)) in
      ap (λ q. go_on q (wholly s)) x ∙ whole s (struct_for w ported (power_of a) (power_of p) (records_of ms))

pub as_scalars64 : AsScalars 64 target64
as_scalars64 = as_scalars 64 target64 scalars64 fits64 held64
