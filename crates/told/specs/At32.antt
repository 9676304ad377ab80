-- What the answers and inputs of the exports at 32 bits are in a line. Assumes nothing.
use Rattle.std.specs.Prelude.{List, [], ◌∷◌, ℕ, ◌+◌, get_or}
use Rattle.widths_defs.specs.Low.{low}
use Rattle.exports32_numbers.specs.declared.Number32.{Number32}
use Rattle.exports32_numbers.specs.declared.Components32.{Components32}
use Rattle.exports32_numbers.specs.declared.TrailingAnswer32.{TrailingAnswer32}
use Rattle.exports32_numbers.specs.declared.Trailing32.{Trailing32}
use Rattle.exports32_full.specs.declared.NormalFormOut32.{NormalFormOut32}
use Rattle.exports32_share.specs.declared.PaddingOut32.{PaddingOut32}
use Rattle.exports32_layouts.specs.declared.LayoutOut32.{LayoutOut32}
use Rattle.exports32_layouts.specs.declared.Layout32.{Layout32}
use Rattle.exports32_lists.specs.declared.ComposedOut32.{ComposedOut32}
use Rattle.exports32_converts.specs.declared.CastOut32.{CastOut32}
use Rattle.exports32_converts.specs.declared.CastParamsOut32.{CastParamsOut32}
use Rattle.exports32_converts.specs.declared.CastParams32.{CastParams32}
use Rattle.exports32_front.specs.declared.ServingOut32.{ServingOut32}
use Rattle.exports32_guarantee.specs.declared.CarriedOut32.{CarriedOut32}

-- the numbers of each answer, in the order of rust/differential/recorded.rs
abbrev pub number_numbers32 : Number32 → List ℕ
number_numbers32 a = a.refusal ∷ a.value ∷ []

abbrev pub components_numbers32 : Components32 → List ℕ
components_numbers32 a = a.refusal ∷ a.align ∷ a.phase ∷ []

abbrev pub trailing_numbers32 : TrailingAnswer32 → List ℕ
trailing_numbers32 a = a.refusal ∷ a.layout.size_base ∷ a.layout.offset ∷ a.layout.elem_size ∷ a.layout.word ∷ []

abbrev pub form_numbers32 : NormalFormOut32 → List ℕ
form_numbers32 a = a.refusal ∷ a.size_base ∷ a.elem_size ∷ a.word ∷ []

abbrev pub padding_numbers32 : PaddingOut32 → List ℕ
padding_numbers32 a =
    a.refusal ∷ a.place ∷ a.padding_numerator ∷ a.padding_denominator ∷ a.mean_numerator ∷ a.mean_denominator ∷ a.greatest ∷
    a.index ∷ []

abbrev pub layout_numbers32 : LayoutOut32 → List ℕ
layout_numbers32 a =
    a.refusal ∷ a.layout.align ∷ a.layout.kind ∷ a.layout.size_base ∷ a.layout.offset ∷ a.layout.elem_size ∷ a.layout.word ∷ []

abbrev pub composed_numbers32 : ComposedOut32 → List ℕ
composed_numbers32 a =
    a.refusal ∷ a.place ∷ a.layout.align ∷ a.layout.kind ∷ a.layout.size_base ∷ a.layout.offset ∷ a.layout.elem_size ∷
    a.layout.word ∷ []

abbrev pub cast_numbers32 : CastOut32 → List ℕ
cast_numbers32 a = a.refusal ∷ a.count ∷ a.split ∷ []

abbrev pub params_numbers32 : CastParamsOut32 → List ℕ
params_numbers32 a = a.refusal ∷ a.params.kind ∷ a.params.offset_delta_elems ∷ a.params.elem_multiple ∷ a.params.dst_meta ∷ []

abbrev pub serving_numbers32 : ServingOut32 → List ℕ
serving_numbers32 a = a.map_refusal ∷ a.spare_refusal ∷ a.serves ∷ a.count ∷ a.split ∷ []

abbrev pub carried_numbers32 : CarriedOut32 → List ℕ
carried_numbers32 a =
    a.computed.refusal ∷ a.computed.params.kind ∷ a.computed.params.offset_delta_elems ∷ a.computed.params.elem_multiple ∷
    a.computed.params.dst_meta ∷ a.count.refusal ∷ a.count.value ∷ a.first.refusal ∷ a.first.count ∷ a.first.split ∷
    a.second.refusal ∷ a.second.count ∷ a.second.split ∷ []

-- the inputs that stand in the words of a line from one on
abbrev pub trailing_at32 : List ℕ → ℕ → Trailing32
trailing_at32 ns from =
    record {
      size_base = low 32 (get_or ns from 0);
      offset = low 32 (get_or ns (from + 1) 0);
      elem_size = low 32 (get_or ns (from + 2) 0);
      word = low 32 (get_or ns (from + 3) 0);
    }

abbrev pub layout_at32 : List ℕ → ℕ → Layout32
layout_at32 ns from =
    record {
      align = low 32 (get_or ns from 0);
      kind = low 32 (get_or ns (from + 1) 0);
      size_base = low 32 (get_or ns (from + 2) 0);
      offset = low 32 (get_or ns (from + 3) 0);
      elem_size = low 32 (get_or ns (from + 4) 0);
      word = low 32 (get_or ns (from + 5) 0);
    }

abbrev pub params_at32 : List ℕ → ℕ → CastParams32
params_at32 ns from =
    record {
      kind = low 32 (get_or ns from 0);
      offset_delta_elems = low 32 (get_or ns (from + 1) 0);
      elem_multiple = low 32 (get_or ns (from + 2) 0);
      dst_meta = low 32 (get_or ns (from + 3) 0);
    }
