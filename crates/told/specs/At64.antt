-- What the answers and inputs of the exports at 64 bits are in a line. Assumes nothing.
use Rattle.std.specs.Prelude.{List, [], ◌∷◌, ℕ, ◌+◌, get_or}
use Rattle.exports_numbers.specs.declared.Number.{Number}
use Rattle.exports_numbers.specs.declared.Components.{Components}
use Rattle.exports_numbers.specs.declared.TrailingAnswer.{TrailingAnswer}
use Rattle.exports_numbers.specs.declared.Trailing.{Trailing}
use Rattle.exports_full.specs.declared.NormalFormOut.{NormalFormOut}
use Rattle.exports_share.specs.declared.PaddingOut.{PaddingOut}
use Rattle.exports_layouts.specs.declared.LayoutOut.{LayoutOut}
use Rattle.exports_layouts.specs.declared.ComposedOut.{ComposedOut}
use Rattle.exports_layouts.specs.declared.Layout.{Layout}
use Rattle.exports_converts.specs.declared.CastOut.{CastOut}
use Rattle.exports_converts.specs.declared.CastParamsOut.{CastParamsOut}
use Rattle.exports_converts.specs.declared.CastParams.{CastParams}
use Rattle.exports_front.specs.declared.ServingOut.{ServingOut}
use Rattle.exports_guarantee.specs.declared.CarriedOut.{CarriedOut}

-- the numbers of each answer, in the order of rust/differential/recorded.rs
abbrev pub number_numbers : Number → List ℕ
number_numbers a = a.refusal ∷ a.value ∷ []

abbrev pub components_numbers : Components → List ℕ
components_numbers a = a.refusal ∷ a.align ∷ a.phase ∷ []

abbrev pub trailing_numbers : TrailingAnswer → List ℕ
trailing_numbers a = a.refusal ∷ a.layout.size_base ∷ a.layout.offset ∷ a.layout.elem_size ∷ a.layout.word ∷ []

abbrev pub form_numbers : NormalFormOut → List ℕ
form_numbers a = a.refusal ∷ a.size_base ∷ a.elem_size ∷ a.word ∷ []

abbrev pub padding_numbers : PaddingOut → List ℕ
padding_numbers a =
    a.refusal ∷ a.place ∷ a.padding_numerator ∷ a.padding_denominator ∷ a.mean_numerator ∷ a.mean_denominator ∷ a.greatest ∷
    a.index ∷ []

abbrev pub layout_numbers : LayoutOut → List ℕ
layout_numbers a =
    a.refusal ∷ a.layout.align ∷ a.layout.kind ∷ a.layout.size_base ∷ a.layout.offset ∷ a.layout.elem_size ∷ a.layout.word ∷ []

abbrev pub composed_numbers : ComposedOut → List ℕ
composed_numbers a =
    a.refusal ∷ a.place ∷ a.layout.align ∷ a.layout.kind ∷ a.layout.size_base ∷ a.layout.offset ∷ a.layout.elem_size ∷
    a.layout.word ∷ []

abbrev pub cast_numbers : CastOut → List ℕ
cast_numbers a = a.refusal ∷ a.count ∷ a.split ∷ []

abbrev pub params_numbers : CastParamsOut → List ℕ
params_numbers a = a.refusal ∷ a.params.kind ∷ a.params.offset_delta_elems ∷ a.params.elem_multiple ∷ a.params.dst_meta ∷ []

abbrev pub serving_numbers : ServingOut → List ℕ
serving_numbers a = a.map_refusal ∷ a.spare_refusal ∷ a.serves ∷ a.count ∷ a.split ∷ []

abbrev pub carried_numbers : CarriedOut → List ℕ
carried_numbers a =
    a.computed.refusal ∷ a.computed.params.kind ∷ a.computed.params.offset_delta_elems ∷ a.computed.params.elem_multiple ∷
    a.computed.params.dst_meta ∷ a.count.refusal ∷ a.count.value ∷ a.first.refusal ∷ a.first.count ∷ a.first.split ∷
    a.second.refusal ∷ a.second.count ∷ a.second.split ∷ []

-- the inputs that stand in the words of a line from one on
abbrev pub trailing_at : List ℕ → ℕ → Trailing
trailing_at ns from =
    record {
      size_base = get_or ns from 0;
      offset = get_or ns (from + 1) 0;
      elem_size = get_or ns (from + 2) 0;
      word = get_or ns (from + 3) 0;
    }

abbrev pub layout_at : List ℕ → ℕ → Layout
layout_at ns from =
    record {
      align = get_or ns from 0;
      kind = get_or ns (from + 1) 0;
      size_base = get_or ns (from + 2) 0;
      offset = get_or ns (from + 3) 0;
      elem_size = get_or ns (from + 4) 0;
      word = get_or ns (from + 5) 0;
    }

abbrev pub params_at : List ℕ → ℕ → CastParams
params_at ns from =
    record {
      kind = get_or ns from 0;
      offset_delta_elems = get_or ns (from + 1) 0;
      elem_multiple = get_or ns (from + 2) 0;
      dst_meta = get_or ns (from + 3) 0;
    }
