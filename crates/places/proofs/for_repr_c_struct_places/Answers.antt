-- `places::for_repr_c_struct_places` meets its contract. Assumes nothing.
use Rattle.std.proofs.Common.{◌≡◌, ℕ, ◌/◌, Bool, true, false, ◌&&◌, eqb, length, sym, refl, ◌∙◌, arith, eqb-true}
use Rattle.compose.specs.View.{composed_says}
use Rattle.compose_defs.proofs.Written.{places_on, places_off, places_length, list_places_mean}
use Rattle.places.proofs.for_repr_c_struct_places.Goals as goal

both : (m n k : ℕ) → (eqb m k && eqb n k) ≡ true → (m ≡ k) × (n ≡ k)
both m n k e = go (eqb m k) refl e
  where
    go : (b : Bool) → eqb m k ≡ b → (b && eqb n k) ≡ true → (m ≡ k) × (n ≡ k)
    go true f g = (eqb-true m k f, eqb-true n k g)
    go false f g = let z : ◌≡◌ {A = ℕ} 0 1 = cc in absurd (omega arith)

pub compose_and_write-requires : goal.compose_and_write-requires
compose_and_write-requires g c = let n = length c.args.members.now / 48 in let b = both (length c.args.places.now) (length c.args.gaps.now) n (sym c.both_are.ensures ∙ c.if-both_are.true) in (c.if-members-eq0.true, b)

pub returns-then-both_are-clause-answer : goal.returns-then-both_are-clause-answer
returns-then-both_are-clause-answer g c = let s = c.args.members.now in c.compose_and_write.ensures.result_value ∙ sym (places_on g.W.Steps.bits (g.W.Steps.number c.args.repr_align) (g.W.Steps.number c.args.repr_packed) s (length c.args.places.now) (length c.args.gaps.now) c.if-members-eq0.true (sym c.both_are.ensures ∙ c.if-both_are.true))

pub returns-then-both_are-clause-places : goal.returns-then-both_are-clause-places
returns-then-both_are-clause-places g c = c.compose_and_write.ensures.places_after

pub returns-then-both_are-clause-gaps : goal.returns-then-both_are-clause-gaps
returns-then-both_are-clause-gaps g c = c.compose_and_write.ensures.gaps_after

pub returns-then-both_are-clause-meaning : goal.returns-then-both_are-clause-meaning
returns-then-both_are-clause-meaning g c = let s = c.args.members.now in list_places_mean g.W.Steps.bits (g.W.Steps.number c.args.repr_align) (g.W.Steps.number c.args.repr_packed) s (g.W.Steps.numbers c.args.places.now) (g.W.Steps.numbers c.args.gaps.now) ((composed_says g.W.Steps.layout) c.compose_and_write.result) c.compose_and_write.ensures.result_value c.compose_and_write.ensures.places_after c.compose_and_write.ensures.gaps_after

pub returns-else-both_are-clause-answer : goal.returns-else-both_are-clause-answer
returns-else-both_are-clause-answer g c = let s = c.args.members.now in sym (places_off g.W.Steps.bits (g.W.Steps.number c.args.repr_align) (g.W.Steps.number c.args.repr_packed) s (length c.args.places.now) (length c.args.gaps.now) c.if-members-eq0.true (sym c.both_are.ensures ∙ c.if-both_are.false))

pub returns-else-both_are-clause-places : goal.returns-else-both_are-clause-places
returns-else-both_are-clause-places g c = refl

pub returns-else-both_are-clause-gaps : goal.returns-else-both_are-clause-gaps
returns-else-both_are-clause-gaps g c = refl

pub returns-else-both_are-clause-meaning : goal.returns-else-both_are-clause-meaning
returns-else-both_are-clause-meaning g c = tt

pub returns-else-members-eq0-clause-answer : goal.returns-else-members-eq0-clause-answer
returns-else-members-eq0-clause-answer g c = let s = c.args.members.now in sym (places_length g.W.Steps.bits (g.W.Steps.number c.args.repr_align) (g.W.Steps.number c.args.repr_packed) s (length c.args.places.now) (length c.args.gaps.now) c.if-members-eq0.false)

pub returns-else-members-eq0-clause-places : goal.returns-else-members-eq0-clause-places
returns-else-members-eq0-clause-places g c = refl

pub returns-else-members-eq0-clause-gaps : goal.returns-else-members-eq0-clause-gaps
returns-else-members-eq0-clause-gaps g c = refl

pub returns-else-members-eq0-clause-meaning : goal.returns-else-members-eq0-clause-meaning
returns-else-members-eq0-clause-meaning g c = tt
