-- `cast::fit_elems` meets its contract. Assumes nothing.
use mathlib.Core.Path.{◌≡◌, ap, ap₂, ◌∙◌}
use Prim.Native.Nat.{ℕ, ◌+◌, ◌-◌, ◌/◌, ◌%◌}
use native.Mathlib.Omega.{arith}
use Rattle.util_defs.specs.Round.{down}
use Rattle.util_defs.specs.Refusal.{answered}
use Rattle.trailing_defs.specs.Size.{size_at}
use Rattle.trailing_defs.specs.Count.{count_within}
use Rattle.trailing.specs.View.{trailing_of}
use Rattle.cast_defs.proofs.Grants.{grant_count, grant_size, grant_fits}
use Rattle.cast.proofs.fit_elems.Goals as goal

pub overflow_sub-len : goal.overflow_sub-len
overflow_sub-len c =
    (grant_fits 64 (trailing_of c.args.decoded.layout) c.args.len c.args.max_slice_bytes c.args.decoded.is_word (omega arith) c.requires.1).0

pub overflow_sub-result : goal.overflow_sub-result
overflow_sub-result c =
    let t = trailing_of c.args.decoded.layout in
    let f = grant_fits 64 t c.args.len c.args.max_slice_bytes c.args.decoded.is_word (omega arith) c.requires.1 in
    let u = c.round_down-unused_aligned_bytes.ensures ∙ ap (down (c.args.max_slice_bytes % t.elem)) c.align-size_align.ensures in
    let v = c.round_down-max_rounded_bytes.ensures ∙ ap (down (c.args.len - t.base)) c.align-size_align.ensures in
    omega (arith, u, v, f.1.0)

pub overflow_add-result : goal.overflow_add-result
overflow_add-result c =
    let t = trailing_of c.args.decoded.layout in
    let f = grant_fits 64 t c.args.len c.args.max_slice_bytes c.args.decoded.is_word (omega arith) c.requires.1 in
    let u = c.round_down-unused_aligned_bytes.ensures ∙ ap (down (c.args.max_slice_bytes % t.elem)) c.align-size_align.ensures in
    let v = c.round_down-max_rounded_bytes.ensures ∙ ap (down (c.args.len - t.base)) c.align-size_align.ensures in
    omega (arith, u, v, f.1.1)

pub returns : goal.returns
unfolding count_within
returns c =
    let t = trailing_of c.args.decoded.layout in
    let x = c.args.decoded.is_word in
    let e = c.align-size_align.ensures in
    let n : c.args.max_slice_bytes / t.elem ≡ count_within 64 t c.args.len = ap (λ (z : ℕ). z / t.elem) (grant_count 64 t c.args.len c.args.max_slice_bytes x (omega arith) c.requires.1) in
    ap₂ (λ (u v : ℕ). answered (record { count = c.args.max_slice_bytes / t.elem; split = t.base + (v - u) })) (c.round_down-unused_aligned_bytes.ensures ∙ ap (down (c.args.max_slice_bytes % t.elem)) e) (c.round_down-max_rounded_bytes.ensures ∙ ap (down (c.args.len - t.base)) e)
    ∙ ap (λ (z : ℕ). answered (record { count = c.args.max_slice_bytes / t.elem; split = z })) (grant_size 64 t c.args.len c.args.max_slice_bytes x (omega arith) c.requires.0 c.requires.1)
    ∙ ap (λ (z : ℕ). answered (record { count = z; split = size_at 64 t z })) n
