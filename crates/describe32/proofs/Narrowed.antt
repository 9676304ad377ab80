-- What is read at 32 bits, 32 bits hold: narrowed, it is the same. Assumes nothing.
use mathlib.Core.Path.{◌≡◌, refl, sym, ap, ◌∙◌}
use mathlib.Core.List.{List}
use Prim.Native.Nat.{ℕ}
use Rattle.util_defs.specs.Placed.{Placed, reached, stopped}
use Rattle.layout_defs.specs.Layout.{Layout}
use Rattle.describe_defs.specs.Describe.{Part, part_for, described_for}
use Rattle.describe_defs.specs.Faults.{PartMeans, ReadMeans}
use Rattle.describe_defs.proofs.Reading.{part_means, read_means}
use Rattle.widths_layouts_defs.proofs.Layouts.{low_layout_lem}
use Rattle.scalar32.specs.Target.{target32}
use Rattle.scalar32.proofs.Accepted.{scalars32}
use mathlib.Core.Bool.{true}
use Rattle.width.proofs.Reading.{part_held, read_held}
use Rattle.describe32.specs.View.{low_part, low_read}

pub part_low : (s : List ℕ) (d t : ℕ) {p r : Placed Part} → p ≡ part_for 32 target32 d s t → r ≡ low_part 32 p
    → (r ≡ part_for 32 target32 d s t) × PartMeans 32 target32 s d t r
part_low s d t {p} {r} e f = (x, part_means 32 target32 s scalars32 d t r (sym x))
  where
    same : (p : Placed Part) → p ≡ part_for 32 target32 d s t → low_part 32 p ≡ p
    same (reached q) e = ap (λ (l : Layout). reached (l, q.1)) (low_layout_lem 32 q.0 (part_held true s d t (sym e)))
    same (stopped k i) e = refl

    x : r ≡ part_for 32 target32 d s t
    x = f ∙ same p e ∙ e

pub read_low : (s : List ℕ) {p r : Placed Layout} → p ≡ described_for 32 target32 s → r ≡ low_read 32 p
    → (r ≡ described_for 32 target32 s) × ReadMeans 32 target32 s r
read_low s {p} {r} e f = (x, read_means 32 target32 s scalars32 r (sym x))
  where
    same : (p : Placed Layout) → p ≡ described_for 32 target32 s → low_read 32 p ≡ p
    same (reached l) e = ap reached (low_layout_lem 32 l (read_held true s (sym e)))
    same (stopped k i) e = refl

    x : r ≡ described_for 32 target32 s
    x = f ∙ same p e ∙ e
