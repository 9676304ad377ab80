-- Greatest counts and their sizes, of any layout, over any width w. Assumes nothing.
use mathlib.Core.Path.{◌≡◌, refl, sym, ap, ◌∙◌, subst}
use Prim.Native.Nat.{ℕ, ◌+◌, ◌-◌, ◌*◌, ◌/◌, ◌%◌, ◌^◌, ◌≤◌, ◌<◌}
use native.Mathlib.Nat.{div-add-mod', mod-le}
use native.Mathlib.Omega.{arith}
use Rattle.util_defs.specs.Round.{up, down}
use Rattle.util_defs.specs.Refusal.{unless, Outcome, answered, Tells, fails, None, Meets, Decided}
use Rattle.util_defs.proofs.Refusals.{known, answered_means, yes, told_true, tells_eq, tells_le, tells_lt, tells_not, tells_as, meets, clear}
use Rattle.util_defs.proofs.Tables.{none_both, decided_both, accepted_first}
use Rattle.util_defs.proofs.Rounding.{down_multiple, down_le, difference_multiple, up_less, up_multiple}
use Rattle.util_defs.proofs.Powers.{positive}
use Rattle.util_defs.proofs.Helpers.{power}
use Rattle.rounding.specs.Word.{IsWord}
use Rattle.rounding.proofs.Words.{parts_of_lem, at_parts, not_zero, align_power}
use Rattle.trailing_defs.specs.Size.{Trailing, A, p, size_with, size_at}
use Rattle.trailing_defs.specs.Count.{GreatestBytes, bytes_within}
use Rattle.trailing_defs.proofs.Sizes.{size_within, size_mono, size_ge, greatest_bytes, greatest_count}
use Rattle.layout_defs.specs.Layout.{Info, fixed, trailing, Layout, IsCount, size_in, no_word, layout_causes}
use Rattle.padding_defs.specs.Pad.{PaddedInfo, Padded}
use Rattle.layout_defs.proofs.Layouts.{layout_decided}
use Rattle.cast_defs.specs.Cast.{Side, suffix, tested_address, Greatest, count_in, elem_zero, too_small, bytes_causes, cast_causes, Grant, greatest_grant, cast_for, GrantMeans}

-- the alignment of a rounding word that is not 0
pub align_pos : (w : ℕ) (t : Trailing) → 0 < w → (t.word ≡ 0 → ⊥) → 0 < A w t
align_pos w t h n = positive (align_power w t.word h (omega (arith, n)))

-- the greatest number of bytes, and the count and the size that the code makes of it
pub grant_count : {a q : ℕ} (w : ℕ) (t : Trailing) (L m : ℕ) → IsWord t.word a q → t.word < 2 ^ w → GreatestBytes t.base (A w t) (p w t) L m
    → m ≡ bytes_within t.base (A w t) (p w t) L
grant_count w t L m x h g =
    let pos = positive (parts_of_lem w t.word (not_zero x) h).power in
    let z : size_with t.base (A w t) (p w t) 0 ≤ L = omega (arith, g.fits, size_mono t.base (A w t) (p w t) 0 m pos (omega arith)) in
    let k = greatest_bytes t.base (A w t) (p w t) L pos z in
    omega (arith, g.greatest (bytes_within t.base (A w t) (p w t) L) k.fits, k.greatest m g.fits)

pub grant_size : {a q : ℕ} (w : ℕ) (t : Trailing) (L m : ℕ) → IsWord t.word a q → t.word < 2 ^ w → 0 < t.elem → GreatestBytes t.base (A w t) (p w t) L m
    → t.base + (down (L - t.base) a - down (m % t.elem) a) ≡ size_at w t (m / t.elem)
unfolding size_with bytes_within
grant_size {a} {q} w t L m x h e g =
    let B = A w t in
    let P = p w t in
    let pos = positive (parts_of_lem w t.word (not_zero x) h).power in
    let D = down (L - t.base) B in
    let u = m % t.elem in
    let i : m ≡ D - P = grant_count w t L m x h g in
    let j : P + m ≤ D = size_within t.base B P m L pos g.fits in
    let d : m / t.elem * t.elem + u ≡ m = div-add-mod' m t.elem in
    let s : up (P + m / t.elem * t.elem) B ≡ up (D - u) B = ap (λ (z : ℕ). up z B) (omega arith) in
    let r : up (D - u) B ≡ D - down u B = up_less D u B pos (down_multiple (L - t.base) B) (omega arith) in
    sym (at_parts w (λ (b c : ℕ). t.base + (down (L - t.base) b - down u b)) x h) ∙ ap (λ (z : ℕ). t.base + z) (sym (s ∙ r))

-- the greatest count of a layout whose elements have a size, where one fits
pub greatest_in : (w : ℕ) (i : Info) (L : ℕ) → 0 < w → ((no_word i).means → ⊥) → ((elem_zero i).means → ⊥) → size_in w i 0 ≤ L → Greatest w i L (count_in w i L)
greatest_in w (fixed s) L f nw ne h = record { count = refl; fits = h; greatest = λ m c l. omega arith }
greatest_in w (trailing t) L f nw ne h =
    let pos = align_pos w t f nw in
    let g = greatest_count w t L pos (omega (arith, ne)) h in
    record { count = tt; fits = g.fits; greatest = λ m c l. g.greatest m l }

-- a greatest count is one number, and grows with the limit
pub one_greatest : {w : ℕ} {i : Info} {L m n : ℕ} → Greatest w i L m → Greatest w i L n → m ≡ n
one_greatest {w} {i} {L} {m} {n} x y = omega (arith, x.greatest n y.count y.fits, y.greatest m x.count x.fits)

pub greatest_grows : {w : ℕ} {i : Info} {K L m n : ℕ} → K ≤ L → Greatest w i K m → Greatest w i L n → m ≤ n
greatest_grows {w} {i} {K} {L} {m} {n} h x y = y.greatest m x.count (omega (arith, x.fits))

-- the size at 0 is the least: where it is past the limit, every size is
pub tells_small : (w : ℕ) (i : Info) (L : ℕ) → 0 < w → ((no_word i).means → ⊥) → Tells (too_small w i L).means (too_small w i L).test
tells_small w (fixed s) L f nw = tells_as (λ h n c l. omega arith) (λ g. omega (arith, g 0 refl)) (tells_lt L s)
tells_small w (trailing t) L f nw =
    let pos = align_pos w t f nw in
    tells_as (λ h n c l. omega (arith, size_mono t.base (A w t) (p w t) (0 * t.elem) (n * t.elem) pos (omega arith))) (λ g. omega (arith, g 0 tt)) (tells_lt L (size_at w t 0))

pub elem_decided : (i : Info) → Tells (elem_zero i).means (elem_zero i).test
elem_decided (fixed s) = fails (λ x. x)
elem_decided (trailing t) = tells_eq t.elem 0

pub bytes_decided : (w : ℕ) (l : Layout) (side : Side) (addr len : ℕ) → 0 < w → None (layout_causes w l) → Decided (bytes_causes w l side addr len)
bytes_decided w l side addr len f n = (
  elem_decided l.info,
  λ _. (
    tells_lt (2 ^ w - 1) (addr + len),
    λ _. (
      tells_not (tells_eq (tested_address side addr len % l.align) 0),
      λ _. (
        tells_small w l.info len f n.1.0,
        λ _. tt,
      ),
    ),
  ),
)

pub cast_decided : (w : ℕ) (l : Layout) (side : Side) (addr len : ℕ) → l.align < 2 ^ w → 0 < w → Decided (cast_causes w l side addr len)
cast_decided w l side addr len h f =
    decided_both (layout_causes w l) (bytes_causes w l side addr len) (layout_decided w l h) (bytes_decided w l side addr len f)

-- what a cast means: granted exactly when nothing in the table refuses it, and then the greatest count
pub cast_meets : (w : ℕ) (l : Layout) (side : Side) (addr len : ℕ) → l.align < 2 ^ w → 0 < w
    → Meets (cast_causes w l side addr len) (GrantMeans w l.info side len) (cast_for w l side addr len)
unfolding cast_for
cast_meets w l side addr len h f =
    meets (cast_causes w l side addr len) (greatest_grant w l.info side len) (cast_decided w l side addr len h f)
    (λ n.
    let m = none_both (layout_causes w l) (bytes_causes w l side addr len) n in
    let s : size_in w l.info 0 ≤ len = known (tells_le (size_in w l.info 0) len) (λ g. m.1.1.1.1.0 (least w l.info len f m.0.1.0 g)) in
    record { greatest = greatest_in w l.info len f m.0.1.0 m.1.0 s; split = refl })
  where
    least : (w : ℕ) (i : Info) (len : ℕ) → 0 < w → ((no_word i).means → ⊥) → (size_in w i 0 ≤ len → ⊥) → (n : ℕ) → IsCount i n → size_in w i n ≤ len → ⊥
    least w i len f nw g = yes (tells_small w i len f nw) (told_true (tells_lt len (size_in w i 0)) (omega (arith, g)))

-- of a layout that is accepted only the bytes are left to refuse
pub cast_accepted : (w : ℕ) (l : Layout) (side : Side) (addr len : ℕ) → l.align < 2 ^ w → None (layout_causes w l)
    → cast_for w l side addr len ≡ unless (bytes_causes w l side addr len) (greatest_grant w l.info side len)
unfolding cast_for
cast_accepted w l side addr len h n =
    accepted_first {S = ℕ} (layout_causes w l) (bytes_causes w l side addr len) 0 (greatest_grant w l.info side len) (clear (layout_causes w l) (layout_decided w l h) n)

-- the differences and the sum that the code makes of it do not wrap
pub grant_fits : {a q : ℕ} (w : ℕ) (t : Trailing) (L m : ℕ) → IsWord t.word a q → t.word < 2 ^ w → GreatestBytes t.base (A w t) (p w t) L m
    → (t.base ≤ L) × ((down (m % t.elem) a ≤ down (L - t.base) a) × (t.base + (down (L - t.base) a - down (m % t.elem) a) ≤ L))
grant_fits {a} {q} w t L m x h g =
    let pos = positive (parts_of_lem w t.word (not_zero x) h).power in
    let b : t.base + m ≤ L = omega (arith, size_ge t.base (A w t) (p w t) m pos, g.fits) in
    let j : p w t + m ≤ down (L - t.base) (A w t) = size_within t.base (A w t) (p w t) m L pos g.fits in
    let e : down (L - t.base) (A w t) ≡ down (L - t.base) a = at_parts w (λ (b c : ℕ). down (L - t.base) b) x h in
    (omega arith, (omega (arith, down_le (m % t.elem) a, mod-le m t.elem), omega (arith, down_le (L - t.base) a)))

-- the sizes of a padded layout are multiples of its alignment
padded_multiple : (w : ℕ) (l m : Layout) (n : ℕ) → Padded w l m → IsCount m.info n → size_in w m.info n % l.align ≡ 0
padded_multiple w l m n x c = ap (λ (z : ℕ). z % l.align) (x.sizes n (shape_count l.info m.info n x.info c)) ∙ up_multiple (size_in w l.info n) l.align
  where
    shape_count : (i j : Info) (n : ℕ) → PaddedInfo w l.align i j → IsCount j n → IsCount i n
    shape_count (fixed s) (fixed r) n h c = c
    shape_count (fixed s) (trailing t) n h c = absurd h
    shape_count (trailing t) (fixed r) n h c = absurd h
    shape_count (trailing t) (trailing u) n h c = tt

-- so a suffix that is granted of one starts aligned
pub suffix_aligned : (w : ℕ) (l m : Layout) (addr len : ℕ) (g : Grant) → m.align < 2 ^ w → 0 < w → Padded w l m → cast_for w m suffix addr len ≡ answered g → (addr + g.split) % m.align ≡ 0
suffix_aligned w l m addr len g h pos x e =
    let q = answered_means (subst (λ (o : Outcome Grant). Meets (cast_causes w m suffix addr len) (GrantMeans w m.info suffix len) o) e (cast_meets w m suffix addr len h pos)) in
    let a = m.align in
    let ok = none_both (layout_causes w m) (bytes_causes w m suffix addr len) q.0 in
    let t : (addr + len) % a ≡ 0 = known (tells_eq ((addr + len) % a) 0) ok.1.1.1.0 in
    let z = size_in w m.info g.count in
    let d : z % a ≡ 0 = ap (λ (y : ℕ). z % y) x.align ∙ padded_multiple w l m g.count x q.1.greatest.count in
    let f : z ≤ len = q.1.greatest.fits in
    let s : addr + g.split ≡ (addr + len) - z = omega (arith, q.1.split) in
    ap (λ (y : ℕ). y % a) s ∙ difference_multiple a (addr + len) z (positive (power w a h ok.0.0)) t d (omega arith)
