-- What the types of this crate are, over numbers. Assumes nothing.
use Rattle.short.specs.declared.Short as given
use Rattle.short_defs.specs.Short.{Short}

abbrev pub short_in : given.Short → Short
short_in r = record {
  size = r.size;
  offset = r.offset;
  elem = r.elem_size;
  word = r.word;
  power = r.power;
  kind = r.kind;
  spare = r.spare;
}
