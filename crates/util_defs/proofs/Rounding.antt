-- Rounding to a multiple of A, for any A but 0. Assumes nothing.
use mathlib.Core.Path.{◌≡◌, sym, ap, ◌∙◌}
use Prim.Native.Nat.{ℕ, ◌+◌, ◌-◌, ◌*◌, ◌/◌, ◌%◌, ◌≤◌, ◌<◌}
use native.Mathlib.Nat.{mod-lt, div-add-mod', mul-mod_left, lt_of_mul-lt-mul_right, mul-le-mul_right, mul-add-mod_self_right}
use native.Mathlib.Omega.{arith}
use Rattle.util_defs.specs.Round.{down, up, padding, GreatestMultiple}

-- a number with no remainder is its quotient's multiple
pub multiple : (v A : ℕ) → v % A ≡ 0 → v / A * A ≡ v
multiple v A e = omega (arith, div-add-mod' v A)

-- two multiples of A less than A apart are one
pub same_multiple : (A q r : ℕ) → q * A < r * A + A → r * A < q * A + A → q ≡ r
same_multiple A q r h l =
    let a : q < r + 1 = lt_of_mul-lt-mul_right A (omega arith) in
    let b : r < q + 1 = lt_of_mul-lt-mul_right A (omega arith) in
    omega arith

-- of two multiples of A, the smaller is at least A below the larger
pub next_multiple : (A m n : ℕ) → m % A ≡ 0 → n % A ≡ 0 → m < n → m + A ≤ n
next_multiple A m n em en h =
    let q = m / A in
    let r = n / A in
    let dm : q * A ≡ m = multiple m A em in
    let dn : r * A ≡ n = multiple n A en in
    let l : q < r = lt_of_mul-lt-mul_right A (omega arith) in
    omega (arith, mul-le-mul_right A l)

-- a sum of multiples is one
pub sum_multiple : (A m n : ℕ) → m % A ≡ 0 → n % A ≡ 0 → (m + n) % A ≡ 0
sum_multiple A m n em en =
    let dm : m / A * A ≡ m = multiple m A em in
    let dn : n / A * A ≡ n = multiple n A en in
    let s : (m / A + n / A) * A ≡ m + n = omega arith in
    ap (λ (x : ℕ). x % A) (sym s) ∙ mul-mod_left (m / A + n / A) A

-- down: a multiple, with the remainder the number, less than A below it, and no smaller than any multiple that is at most it
pub down_multiple : (v A : ℕ) → down v A % A ≡ 0
unfolding down
down_multiple v A = mul-mod_left (v / A) A

pub down_mod : (v A : ℕ) → down v A + v % A ≡ v
unfolding down
down_mod v A = div-add-mod' v A

pub down_le : (v A : ℕ) → down v A ≤ v
down_le v A = omega (arith, down_mod v A)

pub down_near : (v A : ℕ) → 0 < A → v < down v A + A
down_near v A p = omega (arith, down_mod v A, mod-lt v p)

pub down_greatest : (v A k : ℕ) → 0 < A → k % A ≡ 0 → k ≤ v → k ≤ down v A
unfolding down
down_greatest v A k p e h =
    let n = down_near v A p in
    let d : k / A * A ≡ k = multiple k A e in
    let l : k / A < v / A + 1 = lt_of_mul-lt-mul_right A (omega arith) in
    let m : k / A * A ≤ v / A * A = mul-le-mul_right A (omega arith) in
    omega arith

pub down_is : (v A : ℕ) → 0 < A → GreatestMultiple v A (down v A)
down_is v A p = record { multiple = down_multiple v A; within = down_le v A; greatest = λ k e h. down_greatest v A k p e h }

pub down_mono : (v u A : ℕ) → 0 < A → v ≤ u → down v A ≤ down u A
down_mono v u A p h = down_greatest u A (down v A) p (down_multiple v A) (omega (arith, down_le v A))

-- up: a multiple, at least the number, less than A above it, and no larger than any multiple that is at least it
pub up_multiple : (v A : ℕ) → up v A % A ≡ 0
unfolding up
up_multiple v A = mul-mod_left ((v + (A - 1)) / A) A

pub up_ge : (v A : ℕ) → 0 < A → v ≤ up v A
unfolding up down
up_ge v A p = omega (arith, down_near (v + (A - 1)) A p)

pub up_near : (v A : ℕ) → 0 < A → up v A < v + A
unfolding up down
up_near v A p = omega (arith, down_le (v + (A - 1)) A)

-- whatever multiple lies in v .. v + A - 1 is up v A
pub up_is : (v A m : ℕ) → 0 < A → m % A ≡ 0 → v ≤ m → m < v + A → m ≡ up v A
up_is v A m p e l h =
    let u = up v A in
    let dm : m / A * A ≡ m = multiple m A e in
    let du : u / A * A ≡ u = multiple u A (up_multiple v A) in
    let q : m / A ≡ u / A = same_multiple A (m / A) (u / A) (omega (arith, up_ge v A p)) (omega (arith, up_near v A p)) in
    sym dm ∙ ap (λ (x : ℕ). x * A) q ∙ du

-- the key law of all sizes: up v A is at most r exactly where v is at most down r A
pub up_down : (v r A : ℕ) → 0 < A → up v A ≤ r → v ≤ down r A
up_down v r A p h = omega (arith, up_ge v A p, down_greatest r A (up v A) p (up_multiple v A) h)

pub down_up : (v r A : ℕ) → 0 < A → v ≤ down r A → up v A ≤ r
down_up v r A p h = go
  where
    go : up v A ≤ r
    go =
        let d = down r A in
        let u = up v A in
        let dd : d / A * A ≡ d = multiple d A (down_multiple r A) in
        let du : u / A * A ≡ u = multiple u A (up_multiple v A) in
        let l : u / A < d / A + 1 = lt_of_mul-lt-mul_right A (omega (arith, up_near v A p)) in
        let m : u / A * A ≤ d / A * A = mul-le-mul_right A (omega arith) in
        omega (arith, down_le r A)

pub up_least : (v A m : ℕ) → 0 < A → m % A ≡ 0 → v ≤ m → up v A ≤ m
up_least v A m p e h = down_up v m A p (omega (arith, down_greatest m A m p e (omega arith)))

pub up_mono : (v u A : ℕ) → 0 < A → v ≤ u → up v A ≤ up u A
up_mono v u A p h = up_least v A (up u A) p (up_multiple u A) (omega (arith, up_ge u A p))

-- a multiple added before rounding is added after it
pub up_shift : (v A m : ℕ) → 0 < A → m % A ≡ 0 → up (m + v) A ≡ m + up v A
up_shift v A m p e =
    sym (up_is (m + v) A (m + up v A) p (sum_multiple A m (up v A) e (up_multiple v A)) (omega (arith, up_ge v A p)) (omega (arith, up_near v A p)))

-- a multiple is rounded to itself
pub up_whole : (v A : ℕ) → 0 < A → v % A ≡ 0 → up v A ≡ v
up_whole v A p e = sym (up_is v A v p e (omega arith) (omega arith))

-- padding is what up adds: the one number below A that makes a multiple
pub up_padding : (v A : ℕ) → 0 < A → v + padding v A ≡ up v A
unfolding padding
up_padding v A p = omega (arith, up_ge v A p)

pub padding_lt : (v A : ℕ) → 0 < A → padding v A < A
padding_lt v A p = omega (arith, up_padding v A p, up_near v A p)

pub padding_is : (v A r : ℕ) → 0 < A → r < A → (v + r) % A ≡ 0 → r ≡ padding v A
padding_is v A r p h e =
    let u : v + r ≡ up v A = up_is v A (v + r) p e (omega arith) (omega arith) in
    omega (arith, up_padding v A p)

-- padding looks at a remainder only
pub padding_mod : (v t A : ℕ) → 0 < A → padding (v + t % A) A ≡ padding (v + t) A
padding_mod v t A p =
    let x = v + t % A in
    let q = padding x A in
    let d : x + q ≡ up x A = up_padding x A p in
    let m : t / A * A + t % A ≡ t = div-add-mod' t A in
    let e : (v + t) + q ≡ t / A * A + up x A = omega arith in
    padding_is (v + t) A q p (padding_lt x A p) (ap (λ (n : ℕ). n % A) e ∙ mul-add-mod_self_right (t / A) A (up x A) ∙ up_multiple x A)

-- a multiple added before rounding down is added after it
pub down_shift : (v A m : ℕ) → 0 < A → m % A ≡ 0 → down (m + v) A ≡ m + down v A
down_shift v A m p e =
    let a : m + down v A ≤ down (m + v) A = down_greatest (m + v) A (m + down v A) p (sum_multiple A m (down v A) e (down_multiple v A)) (omega (arith, down_le v A)) in
    let d = down (m + v) A in
    let dd : d / A * A ≡ d = multiple d A (down_multiple (m + v) A) in
    let s = m + down v A in
    let ds : s / A * A ≡ s = multiple s A (sum_multiple A m (down v A) e (down_multiple v A)) in
    let q : d / A ≡ s / A = same_multiple A (d / A) (s / A) (omega (arith, down_le (m + v) A, down_near v A p)) (omega arith) in
    sym dd ∙ ap (λ (x : ℕ). x * A) q ∙ ds

-- two numbers below N that are alike, modulo N, once c is added are one
pub mod-cancel : (N r s c : ℕ) → r < N → s < N → (r + c) % N ≡ (s + c) % N → r ≡ s
mod-cancel N r s c hr hs e =
    let x = div-add-mod' (r + c) N in
    let y = div-add-mod' (s + c) N in
    let q : (r + c) / N ≡ (s + c) / N = same_multiple N ((r + c) / N) ((s + c) / N) (omega arith) (omega arith) in
    omega (arith, ap (λ (z : ℕ). z * N) q)

-- a difference of multiples is one
pub difference_multiple : (A m n : ℕ) → 0 < A → m % A ≡ 0 → n % A ≡ 0 → n ≤ m → (m - n) % A ≡ 0
difference_multiple A m n p em en h =
    let k = m / A - n / A in
    let dm : m / A * A ≡ m = multiple m A em in
    let dn : n / A * A ≡ n = multiple n A en in
    let l : n / A < m / A + 1 = lt_of_mul-lt-mul_right A (omega arith) in
    let s : (k + n / A) * A ≡ m / A * A = ap (λ (x : ℕ). x * A) (omega arith) in
    let e : k * A ≡ m - n = omega arith in
    sym (ap (λ (x : ℕ). x % A) e) ∙ mul-mod_left k A

-- a multiple less u, rounded up, is it less u rounded down
pub up_less : (D u A : ℕ) → 0 < A → D % A ≡ 0 → u ≤ D → up (D - u) A ≡ D - down u A
up_less D u A h e l =
    sym (up_is (D - u) A (D - down u A) h (difference_multiple A D (down u A) h e (down_multiple u A) (omega (arith, down_le u A)))
    (omega (arith, down_le u A)) (omega (arith, down_le u A, down_near u A h)))
