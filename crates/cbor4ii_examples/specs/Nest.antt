-- Lists in a list, as arrays in an array.
use Rattle.cbor4ii_ser.specs.Item.{Encoding, array_encoding}
use Rattle.cbor4ii_examples.specs.declared.nest.Nest.{Nest, fold-Nest}
use Rattle.cbor4ii_examples.specs.declared.nest.Nest.TheOpen.{Nest-F}

-- one list, with what is written for each list inside in its place
abbrev pub nest_step : Nest-F Encoding → Encoding
nest_step nest = array_encoding (λ item. item) nest.inner.items

abbrev pub nest_item : Nest → Encoding
nest_item = fold-Nest Encoding nest_step
