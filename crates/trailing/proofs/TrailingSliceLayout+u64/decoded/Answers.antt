-- `trailing::TrailingSliceLayout::decoded` meets its contract. Assumes nothing.
use Rattle.std.proofs.Common.{◌≡◌, refl, sym, subst, inl, arith}
use Rattle.util_defs.specs.Refusal.{Meets, answers, refuses}
use Rattle.util_defs.proofs.Powers.{positive}
use Rattle.util.proofs.Told.{handed_on}
use Rattle.rounding.specs.Word.{word_causes}
use Rattle.rounding.proofs.Told.{parts_told, parts_refused}
use Rattle.trailing.specs.View.{trailing_of}
use Rattle.trailing.proofs.TrailingSliceLayout+u64.decoded.Goals as goal

pub returns : goal.returns
returns c =
    let w = parts_told c.components.result c.components.ensures.meaning c.in_ok-parts.was in
    answers ((λ z. omega (arith, z, w.sum, positive w.power)), tt) refl

pub returns-in_err-parts : goal.returns-in_err-parts
returns-in_err-parts c =
    subst (Meets (word_causes (trailing_of c.args.self).word) (λ l. l ≡ c.args.self)) (sym (handed_on (λ d. d.layout) c.from_residual.result _ c.from_residual.ensures.1 refl))
    (refuses (inl (parts_refused c.components.result c.components.ensures.meaning c.in_err-parts.was)))
