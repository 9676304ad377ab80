-- How layouts at 32 bits cross to C: a layout as the six words of its record, of 32 bits each. Assumes nothing.
use Rattle.std.specs.Prelude.{ℕ}
use Rattle.util_defs.specs.Refusal.{Outcome, answered, refused}
use Rattle.layout_defs.specs.Layout.{Layout}
use Rattle.record_defs.specs.Record.{Words, words_of, words_for}
use Rattle.widths_defs.specs.Low.{low}
use Rattle.exports_layouts.specs.Layouts.{bind_outcome}
use Rattle.exports32_layouts.specs.declared.Layout32.{Layout32}
use Rattle.exports32_layouts.specs.declared.LayoutOut32.{LayoutOut32}

-- what v bits keep of six words
abbrev pub low_words : ℕ → Words → Words
low_words v r = record {
  align = low v r.align;
  kind = low v r.kind;
  size = low v r.size;
  offset = low v r.offset;
  elem = low v r.elem;
  word = low v r.word;
}

-- a layout that was handed over
abbrev pub words_given32 : Layout32 → Words
words_given32 l = record {
  align = l.align;
  kind = l.kind;
  size = l.size_base;
  offset = l.offset;
  elem = l.elem_size;
  word = l.word;
}

-- what is done with it: its words are tested as a record's are
abbrev pub with_layout32 : {T : Type 0} → ℕ → Layout32 → (Layout → Outcome T) → Outcome T
with_layout32 w l f = bind_outcome (words_for w (words_given32 l)) f

-- one that comes back; 0 in its place beside a refusal
abbrev pub words_out32 : Words → Layout32
words_out32 r = record {
  align = r.align;
  kind = r.kind;
  size_base = r.size;
  offset = r.offset;
  elem_size = r.elem;
  word = r.word;
}

abbrev pub no_layout32 : Layout32
no_layout32 = record { align = 0; kind = 0; size_base = 0; offset = 0; elem_size = 0; word = 0 }

abbrev pub layout_out32 : Outcome Layout → LayoutOut32
layout_out32 (answered l) = record { refusal = 0; layout = words_out32 (words_of l) }
layout_out32 (refused k) = record { refusal = k; layout = no_layout32 }
