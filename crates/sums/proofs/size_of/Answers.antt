-- `sums::size_of` meets its contract. Assumes nothing.
use mathlib.Core.Path.{◌≡◌, ap, ◌∙◌}
use Prim.Native.Nat.{ℕ, ◌+◌, ◌-◌}
use native.Mathlib.Omega.{arith}
use Rattle.util_defs.specs.Round.{down}
use Rattle.trailing_defs.specs.Size.{A, p, size_with}
use Rattle.trailing.specs.View.{trailing_of}
use Rattle.sums.specs.Bits.{bits_to}
use Rattle.share_defs.proofs.Told.{within_size, bytes_size, sum_fits, size_by_down}
use Rattle.sums.proofs.size_of.Goals as goal

pub overflow_add-parts : goal.overflow_add-parts
overflow_add-parts c =
    let t = trailing_of c.args.l.decoded.layout in
    let w = bits_to c.args.l.max in
    omega (arith, sum_fits w t.base (c.args.l.decoded.parts.phase + c.args.bytes) c.args.l.decoded.is_word c.args.l.holds (bytes_size w t c.args.l.decoded.is_word c.args.l.holds c.args.l.room c.args.bytes c.requires), c.args.l.is_width)

pub overflow_add-parts-2 : goal.overflow_add-parts-2
overflow_add-parts-2 c =
    let t = trailing_of c.args.l.decoded.layout in
    let w = bits_to c.args.l.max in
    omega (arith, c.align-align.ensures, sum_fits w t.base (c.args.l.decoded.parts.phase + c.args.bytes) c.args.l.decoded.is_word c.args.l.holds (bytes_size w t c.args.l.decoded.is_word c.args.l.holds c.args.l.room c.args.bytes c.requires), c.args.l.is_width)

-- what was rounded, by the alignment of the word, is the size
sized : {a r A z : ℕ} (b q n : ℕ) → a ≡ A → r ≡ down (q + n + (a - 1)) a → b + down (q + n + (A - 1)) A ≡ z → b + r ≡ z
sized b q n e f g = ap (λ (x : ℕ). b + x) (f ∙ ap (λ (x : ℕ). down (q + n + (x - 1)) x) e) ∙ g

pub overflow_add-result : goal.overflow_add-result
overflow_add-result c = let t = trailing_of c.args.l.decoded.layout in
    let w = bits_to c.args.l.max in
    let s = sized t.base c.args.l.decoded.parts.phase c.args.bytes c.align-align.ensures c.round_down.ensures (size_by_down w t c.args.bytes c.args.l.decoded.is_word c.args.l.holds) in
    omega (arith, s, within_size w t c.args.l.decoded.is_word c.args.l.holds c.args.l.room c.args.bytes c.requires, c.args.l.is_width)

pub returns : goal.returns
returns c = let t = trailing_of c.args.l.decoded.layout in
    let w = bits_to c.args.l.max in
    let s = sized t.base c.args.l.decoded.parts.phase c.args.bytes c.align-align.ensures c.round_down.ensures (size_by_down w t c.args.bytes c.args.l.decoded.is_word c.args.l.holds) in
    (omega (arith, s, within_size w t c.args.l.decoded.is_word c.args.l.holds c.args.l.room c.args.bytes c.requires, c.args.l.is_width), λ n e. s ∙ ap (size_with t.base (A w t) (p w t)) e)
