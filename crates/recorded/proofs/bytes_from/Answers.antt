-- `recorded::bytes_from` meets its contract. Assumes nothing.
use mathlib.Core.Path.{◌≡◌, ap, ◌∙◌}
use mathlib.Core.List.{List, ◌++◌}
use Prim.Native.Nat.{ℕ, ◌-◌}
use native.Mathlib.Omega.{arith}
use lib.ListN.{length, replicate, take, drop, length-drop}
use lib.Seq.{take_all}
use Rattle.recorded_defs.specs.Lines.{bytes_from}
use Rattle.recorded_defs.proofs.Reading.{bytes_moved, zeros_left}
use Rattle.recorded.proofs.bytes_from.Goals as goal

pub returns : goal.returns
returns c =
    let ns = c.args.line.now in
    let m = c.min.result in
    let n = length (take (64 - m) (drop m ns)) in
    let zs = drop n (replicate {A = ℕ} 64 0) in
    let all : take (64 - m) (drop m ns) ≡ drop m ns = take_all (64 - m) (drop m ns) (omega (arith, c.fits-line, length-drop m ns)) in
    c.room_from.ensures ∙ ap (λ (b : List ℕ). bytes_from 48 (b ++ zs) 0) (c.copy_from_slice.ensures.after ∙ all)
    ∙ bytes_moved ns zs c.args.from m (omega (arith, c.min.ensures, c.fits-line)) (zeros_left 64 n) 48
