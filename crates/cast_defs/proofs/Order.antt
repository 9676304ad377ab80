-- Which number refuses a cast of an accepted layout where several apply, over any width w. Assumes nothing.
use mathlib.Core.Path.{◌≡◌, ◌∙◌}
use Prim.Native.Nat.{ℕ, ◌+◌, ◌%◌, ◌^◌, ◌<◌}
use Rattle.util_defs.specs.Refusal.{refused, unless, None}
use Rattle.util_defs.proofs.Refusals.{told_true, told_false, tells_eq, tells_lt, tells_not}
use Rattle.util_defs.specs.Width.{M}
use Rattle.layout_defs.specs.Layout.{Layout, layout_causes}
use Rattle.cast_defs.specs.Cast.{Side, tested_address, IsElemZero, cast_for}
use Rattle.cast_defs.proofs.Grants.{elem_decided, cast_accepted}

module _ (w : ℕ) (l : Layout) (side : Side) (addr len : ℕ) (fits : l.align < 2 ^ w) (ok : None (layout_causes w l)) where
  -- 10 before 11, 12 and 13
  pub elem_first : IsElemZero l.info → cast_for w l side addr len ≡ refused 10
  unfolding unless
  elem_first e = cast_accepted w l side addr len fits ok ∙ simp (told_true (elem_decided l.info) e)

  -- 11 before 12 and 13
  pub address_next : (IsElemZero l.info → ⊥) → M w < addr + len → cast_for w l side addr len ≡ refused 11
  unfolding unless
  address_next e p =
      cast_accepted w l side addr len fits ok
      ∙ simp (told_false (elem_decided l.info) e, told_true (tells_lt (M w) (addr + len)) p)

  -- 12 before 13
  pub align_next : (IsElemZero l.info → ⊥) → (M w < addr + len → ⊥) → (tested_address side addr len % l.align ≡ 0 → ⊥)
      → cast_for w l side addr len ≡ refused 12
  unfolding unless
  align_next e p a =
      cast_accepted w l side addr len fits ok
      ∙ simp (told_false (elem_decided l.info) e, told_false (tells_lt (M w) (addr + len)) p, told_true (tells_not (tells_eq (tested_address side addr len % l.align) 0)) a)
