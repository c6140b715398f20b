-- What is promised of any item but a tag that is read as a value.
use Rattle.std.specs.Prelude.{true}
use Rattle.cbor4ii_tree.specs.declared.value.Value.{Value}
use Rattle.cbor4ii.specs.AnyRejects.{RejectsAny}
use Rattle.cbor4ii.specs.Laws.Any.{any_laws}
use Rattle.cbor4ii.specs.Typed.{Promise, typed_by}

-- any item but a tag, as a value
abbrev pub typed_any : Promise Value
typed_any = typed_by RejectsAny true true any_laws
