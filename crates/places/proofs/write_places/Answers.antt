-- `places::write_places` meets its contract. Assumes nothing.
use Rattle.std.proofs.Common.{◌-◌, ◌/◌, length, refl, ◌∙◌, arith, length-set, sym}
use Rattle.make.specs.Make.{empty_layout}
use Rattle.compose_defs.specs.Compose.{members_of}
use Rattle.compose_defs.specs.Places.{places_of, gaps_of}
use Rattle.compose_defs.proofs.Written.{going_begins, going_on, going_ends}
use Rattle.places.proofs.write_places.Goals as goal

pub loop-i-init : goal.loop-i-init
loop-i-init g c =
    (refl, (refl, going_begins g.W.Steps.bits (g.W.Steps.number c.args.repr_align) (g.W.Steps.number c.args.repr_packed) (length c.args.members.now / 48) c.args.members.now (g.W.Steps.numbers c.args.places.now) (g.W.Steps.numbers c.args.gaps.now) c.requires.0))

pub bounds-places-i : goal.bounds-places-i
bounds-places-i g c = omega (arith, c.loop-i.invariant.0, c.requires.1.0, c.loop-i-test.true)

pub bounds-gaps-i : goal.bounds-gaps-i
bounds-gaps-i g c = omega (arith, c.loop-i.invariant.1.0, c.requires.1.1, c.loop-i-test.true)

pub loop-i-preserved : goal.loop-i-preserved
loop-i-preserved g c =
    let s = c.args.members.now in
    let spot = c.land_record-spot.result in
    let h = c.loop-i-test.true in (
      length-set c.loop-i.places c.loop-i.i spot.place ∙ c.loop-i.invariant.0,
      (
        length-set c.loop-i.gaps c.loop-i.i spot.gap ∙ c.loop-i.invariant.1.0,
        rw (g.met.W.Steps.numbers_set c.loop-i.places c.loop-i.i spot.place, g.met.W.Steps.numbers_set c.loop-i.gaps c.loop-i.i spot.gap) (going_on g.W.Steps.bits (g.W.Steps.number c.args.repr_packed) (length s / 48) c.loop-i.i s (places_of (g.W.Steps.number c.args.repr_packed) (empty_layout (g.W.Steps.number c.args.repr_align)) (members_of g.W.Steps.bits (length s / 48) s)) (gaps_of (g.W.Steps.number c.args.repr_packed) (empty_layout (g.W.Steps.number c.args.repr_align)) (members_of g.W.Steps.bits (length s / 48) s)) (g.W.Steps.numbers c.loop-i.places) (g.W.Steps.numbers c.loop-i.gaps) (g.W.Steps.number spot.place) (g.W.Steps.number spot.gap) spot.end h (omega (arith, g.met.W.Steps.numbers_length c.loop-i.places, c.loop-i.invariant.0, c.requires.1.0, h)) (omega (arith, g.met.W.Steps.numbers_length c.loop-i.gaps, c.loop-i.invariant.1.0, c.requires.1.1, h)) (rw (sym c.wide.ensures) c.land_record-spot.ensures) c.loop-i.invariant.1.1),
      ),
    )

pub shape_of-places : goal.shape_of-places
shape_of-places g c = c.loop-i.invariant.0

pub shape_of-gaps : goal.shape_of-gaps
shape_of-gaps g c = c.loop-i.invariant.1.0

pub returns : goal.returns
returns g c =
    let s = c.args.members.now in let told_here = going_ends g.W.Steps.bits (g.W.Steps.number c.args.repr_packed) (length s / 48) c.loop-i.i s (places_of (g.W.Steps.number c.args.repr_packed) (empty_layout (g.W.Steps.number c.args.repr_align)) (members_of g.W.Steps.bits (length s / 48) s)) (gaps_of (g.W.Steps.number c.args.repr_packed) (empty_layout (g.W.Steps.number c.args.repr_align)) (members_of g.W.Steps.bits (length s / 48) s)) (omega arith) (g.met.W.Steps.numbers_length c.loop-i.places ∙ c.loop-i.invariant.0 ∙ c.requires.1.0) (g.met.W.Steps.numbers_length c.loop-i.gaps ∙ c.loop-i.invariant.1.0 ∙ c.requires.1.1) c.loop-i.invariant.1.1 in record { places_after = told_here.0; gaps_after = told_here.1 }
