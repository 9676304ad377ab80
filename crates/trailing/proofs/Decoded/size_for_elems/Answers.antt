-- `trailing::Decoded::size_for_elems` meets its contract. Assumes nothing.
use Rattle.std.proofs.Common.{◌≡◌, ◌-◌, ◌*◌, ◌/◌, ◌^◌, ◌<◌, ◌≤◌, sym, ◌∙◌, arith}
use Rattle.util_defs.proofs.Powers.{positive}
use Rattle.util.proofs.Told.{product_told, product_past}
use Rattle.rounding.proofs.Words.{not_zero, parts_of_lem}
use Rattle.trailing_defs.specs.Size.{A, p, size_at, HasSize}
use Rattle.trailing_defs.specs.Calls.{GreatestIn}
use Rattle.trailing_defs.specs.Sized.{none_above, size_given}
use Rattle.trailing.specs.View.{trailing_of}
use Rattle.trailing_defs.proofs.Sizes.{size_ge, size_mono}
use Rattle.trailing_defs.proofs.Sized.{given_none, given_size}
use Rattle.trailing_defs.proofs.Told.{room_told, room_refused, above_told}
use Rattle.trailing.proofs.Decoded.size_for_elems.Goals as goal
use Rattle.trailing.proofs.Decoded.size_for_elems.Goals.{In-Some, In_default-checked_mul}

-- past both matches: the greatest number of trailing bytes, and the product, which fits
facts : (c : In-Some)
    → let t = trailing_of c.args.self.layout in
    GreatestIn 64 t (2 ^ 64 - 1) c.in-Ok.max_trailing_bytes
    × ((c.in-Some.trailing_size ≡ c.args.elems * t.elem) × (c.args.elems * t.elem ≤ 2 ^ 64 - 1))
facts c =
    let t = trailing_of c.args.self.layout in (
      room_told 64 t (2 ^ 64 - 1) c.max_trailing_bytes.result (omega arith) c.max_trailing_bytes.ensures c.in-Ok.is,
      product_told 64 (c.args.elems * t.elem) c.checked_mul.result c.checked_mul.ensures c.in-Some.is,
    )

-- where the product is no more than that number there is a size
has : (c : In-Some)
    → let t = trailing_of c.args.self.layout in
    c.args.elems * t.elem ≤ c.in-Ok.max_trailing_bytes → HasSize 64 t c.args.elems
has c l =
    let t = trailing_of c.args.self.layout in
    let h : t.word < 2 ^ 64 = omega arith in
    omega (arith, (facts c).0.fits, size_mono t.base (A 64 t) (p 64 t) (c.args.elems * t.elem) c.in-Ok.max_trailing_bytes (positive (parts_of_lem 64 t.word (not_zero c.args.self.is_word) h).power) l)

-- no size at this count, since the product does not fit, or is more than that number: what is to be given
past : (c : In_default-checked_mul)
    → let t = trailing_of c.args.self.layout in
    (0 < t.elem) × (none_above (c.in-Ok.max_trailing_bytes / t.elem) ≡ size_given 64 t c.args.elems)
past c =
    let t = trailing_of c.args.self.layout in
    let n = c.args.elems in
    let h : t.word < 2 ^ 64 = omega arith in
    let l = product_past 64 (n * t.elem) c.checked_mul.result c.checked_mul.ensures c.in_default-checked_mul.is in
    above_told 64 t n c.max_trailing_bytes.result (not_zero c.args.self.is_word) h c.max_trailing_bytes.ensures c.in-Ok.is
    (omega (arith, size_ge t.base (A 64 t) (p 64 t) (n * t.elem) (positive (parts_of_lem 64 t.word (not_zero c.args.self.is_word) h).power)))

more : (c : In-Some)
    → let t = trailing_of c.args.self.layout in
    c.in-Ok.max_trailing_bytes < c.in-Some.trailing_size
    → (0 < t.elem) × (none_above (c.in-Ok.max_trailing_bytes / t.elem) ≡ size_given 64 t c.args.elems)
more c l =
    let t = trailing_of c.args.self.layout in
    let n = c.args.elems in
    let f = facts c in
    let no : size_at 64 t n ≤ 2 ^ 64 - 1 → ⊥ = λ z. omega (arith, f.0.greatest (n * t.elem) z, f.1.0) in
    above_told 64 t n c.max_trailing_bytes.result (not_zero c.args.self.is_word) (omega arith) c.max_trailing_bytes.ensures c.in-Ok.is
    (omega (arith, no))

pub returns-in_default : goal.returns-in_default
returns-in_default c =
    let t = trailing_of c.args.self.layout in
    let none = room_refused 64 t (2 ^ 64 - 1) c.max_trailing_bytes.result (not_zero c.args.self.is_word) (omega arith) c.max_trailing_bytes.ensures c.in_default.is in
    sym (given_none 64 t c.args.elems (not_zero c.args.self.is_word) (omega (arith, none (0 * t.elem))))

pub no_size-requires : goal.no_size-requires
no_size-requires c = (past c).0

pub returns-in_default-checked_mul : goal.returns-in_default-checked_mul
returns-in_default-checked_mul c = c.no_size.ensures ∙ (past c.before).1

pub no_size-requires-then-trailing_size-max_trailing_bytes : goal.no_size-requires-then-trailing_size-max_trailing_bytes
no_size-requires-then-trailing_size-max_trailing_bytes c = (more c.before c.if-trailing_size-max_trailing_bytes.true).0

pub returns-then-trailing_size-max_trailing_bytes : goal.returns-then-trailing_size-max_trailing_bytes
returns-then-trailing_size-max_trailing_bytes c = c.no_size-then-trailing_size-max_trailing_bytes.ensures ∙ (more c.before.before c.if-trailing_size-max_trailing_bytes.true).1

pub size_at-requires : goal.size_at-requires
size_at-requires c =
    let f = facts c.before in
    (f.1.0, has c.before (omega (arith, f.1.0)))

pub returns : goal.returns
returns c =
    let t = trailing_of c.args.self.layout in
    let f = facts c.before.before in
    c.size_at.ensures ∙ sym (given_size 64 t c.args.elems (not_zero c.args.self.is_word) (omega arith) (has c.before.before (omega (arith, f.1.0))))
