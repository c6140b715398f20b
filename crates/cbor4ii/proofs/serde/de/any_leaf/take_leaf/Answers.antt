use Rattle.cbor4ii.proofs.AnyAnswers.{leaf_is}
use Rattle.cbor4ii.proofs.serde.de.any_leaf.take_leaf.Goals as goal

pub returns-in-Bignum : goal.returns-in-Bignum
returns-in-Bignum g c = leaf_is c.in-Bignum.is c.take_bignum.ensures

pub returns-in-Integer : goal.returns-in-Integer
returns-in-Integer g c =
    leaf_is c.in-Integer.is c.take_as.ensures

pub returns-in-Bytes : goal.returns-in-Bytes
returns-in-Bytes g c =
    leaf_is c.in-Bytes.is c.take_as-in-Bytes.ensures

pub returns-in-Text : goal.returns-in-Text
returns-in-Text g c =
    leaf_is c.in-Text.is c.take_as-in-Text.ensures

pub returns-in-Bool : goal.returns-in-Bool
returns-in-Bool g c =
    leaf_is c.in-Bool.is c.take_as-in-Bool.ensures

pub returns-in-Null : goal.returns-in-Null
returns-in-Null g c =
    leaf_is c.in-Null.is c.take_as-in-Null.ensures

pub returns-in-F16 : goal.returns-in-F16
returns-in-F16 g c =
    leaf_is c.in-F16.is c.take_as-in-F16.ensures

pub returns-in-F32 : goal.returns-in-F32
returns-in-F32 g c =
    leaf_is c.in-F32.is c.take_as-in-F32.ensures

pub returns-in-F64 : goal.returns-in-F64
returns-in-F64 g c =
    leaf_is c.in-F64.is c.take_as-in-F64.ensures
