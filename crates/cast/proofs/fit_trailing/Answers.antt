-- `cast::fit_trailing` meets its contract. Assumes nothing.
use mathlib.Core.Path.{sym, ap, subst, ◌∙◌}
use Prim.Native.Nat.{ℕ, ◌*◌, ◌<◌}
use lib.Dec.{lit<}
use borrow.Author.Tests.{lt-ltb, le-ltb}
use native.Mathlib.Omega.{arith}
use Rattle.util_defs.specs.Refusal.{answered, unless}
use Rattle.trailing_defs.specs.Size.{A, p, size_at}
use Rattle.trailing_defs.specs.Calls.{GreatestIn}
use Rattle.trailing.specs.View.{trailing_of}
use Rattle.trailing.specs.declared.TrailingSliceLayout.{TrailingSliceLayout}
use Rattle.trailing.proofs.Told.{decoded_told, decoded_refused}
use Rattle.trailing_defs.proofs.Sizes.{size_mono}
use Rattle.trailing_defs.proofs.Told.{room_told, room_refused}
use Rattle.layout_defs.specs.Layout.{trailing}
use Rattle.cast_defs.specs.Cast.{prefix, greatest_grant}
use Rattle.cast_defs.proofs.Grants.{align_pos}
use Rattle.cast.proofs.fit_trailing.Goals as goal

pub returns-in_default : goal.returns-in_default
unfolding unless
returns-in_default c =
    let t = trailing_of c.args.valid.layout in
    let none = room_refused 64 t c.args.len c.max_trailing_bytes.result c.args.valid.has_word (omega arith) c.max_trailing_bytes.ensures.answer c.in_default.is in
    simp (lt-ltb c.args.len (size_at 64 t 0) (omega (arith, none (0 * t.elem))))

pub fit_elems-requires : goal.fit_elems-requires
fit_elems-requires c =
    let t = trailing_of c.args.valid.layout in
    let l = sym (decoded_told c.decoded.result c.decoded.ensures c.in_ok-decoded.was) in
    subst (λ (d : TrailingSliceLayout ℕ). (0 < d.elem_size) × GreatestIn 64 (trailing_of d) c.args.len c.in-Ok.max_slice_bytes) l
    (c.requires, room_told 64 t c.args.len c.max_trailing_bytes.result (omega arith) c.max_trailing_bytes.ensures.answer c.in-Ok.is)

pub returns : goal.returns
unfolding unless
returns c =
    let t = trailing_of c.args.valid.layout in
    let l = decoded_told c.decoded.result c.decoded.ensures c.in_ok-decoded.was in
    let g = room_told 64 t c.args.len c.max_trailing_bytes.result (omega arith) c.max_trailing_bytes.ensures.answer c.in-Ok.is in
    c.fit_elems.ensures
    ∙ ap (λ (d : TrailingSliceLayout ℕ). answered (greatest_grant 64 (trailing (trailing_of d)) prefix c.args.len)) l
    ∙ simp (le-ltb c.args.len (size_at 64 t 0) (omega (arith, g.fits, size_mono t.base (A 64 t) (p 64 t) (0 * t.elem) c.in-Ok.max_slice_bytes (align_pos 64 t (lit< tt) (λ z. omega arith)) (omega arith))))

pub returns-in_err-decoded : goal.returns-in_err-decoded
returns-in_err-decoded c = absurd (omega (arith, (decoded_refused c.decoded.result c.decoded.ensures c.in_err-decoded.was).0))
