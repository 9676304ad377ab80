-- `shift::matches` meets its contract. Assumes nothing.
use mathlib.Core.Path.{◌≡◌, sym, ap, ◌∙◌}
use Prim.Native.Nat.{ℕ, ◌*◌}
use native.Mathlib.Omega.{arith}
use Rattle.util_defs.proofs.Refusals.{told_false, agree, tells_as}
use Rattle.util.proofs.Told.{product_told, product_past}
use Rattle.trailing_defs.specs.Calls.{advanced}
use Rattle.trailing.specs.View.{trailing_of}
use Rattle.trailing.proofs.Told.{advance_told, advance_missing}
use Rattle.shift_defs.specs.Match.{shifted, same_from}
use Rattle.shift_defs.proofs.Matching.{tells_from, tells_matches}
use Rattle.shift.proofs.matches.Goals as goal

pub returns-in_default : goal.returns-in_default
returns-in_default g c =
    let s = trailing_of c.args.src.layout in
    let t = trailing_of c.args.dst.layout in
    let d = c.args.dst_base in
    let past = product_past 64 (d * t.elem) c.checked_mul.result c.checked_mul.ensures c.in_default.is in
    sym (told_false (tells_matches 64 g.C.Compares.comparison s t d) (λ m. omega (arith, m.advance)))

pub returns-in_default-advance : goal.returns-in_default-advance
returns-in_default-advance g c =
    let s = trailing_of c.args.src.layout in
    let t = trailing_of c.args.dst.layout in
    let d = c.args.dst_base in
    let y = (product_told 64 (d * t.elem) c.checked_mul.result c.checked_mul.ensures c.in-Some.is).0 in
    let past = advance_missing 64 t c.in-Some.base_bytes s.elem c.advance.result c.args.dst.has_word c.advance.ensures.answer c.in_default-advance.is in
    sym (told_false (tells_matches 64 g.C.Compares.comparison s t d) (λ m. omega (arith, m.advance)))

pub returns : goal.returns
returns g c =
    let s = trailing_of c.args.src.layout in
    let t = trailing_of c.args.dst.layout in
    let d = c.args.dst_base in
    let same = g.C.Compares.comparison in
    let y = (product_told 64 (d * t.elem) c.checked_mul.result c.checked_mul.ensures c.in-Some.is).0 in
    let a = advance_told 64 t c.in-Some.base_bytes s.elem c.advance.result c.advance.ensures.answer c.in-Ok.is in
    let i : trailing_of c.in-Ok.shifted_dst ≡ shifted 64 s t d = a.0 ∙ ap (λ (z : ℕ). advanced 64 t z s.elem) y in
    c.found.ensures ∙ ap (same_from 64 same s) i
    ∙ agree (tells_as (λ x. record { start = x.0; advance = omega (arith, a.1); equal = x.1 }) (λ m. (m.start, m.equal)) (tells_from 64 same s (shifted 64 s t d))) (tells_matches 64 same s t d)
