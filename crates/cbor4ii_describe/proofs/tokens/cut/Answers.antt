use Rattle.std.proofs.Common.{◌++◌, ◌∙◌, [], ap, encode_utf8}
use Rattle.std.proofs.lemmas.List.{flat_map_more}
use Rattle.cbor4ii_describe.proofs.tokens.cut.Goals as goal

-- the character joins what was taken
pub loop-c-preserved : goal.loop-c-preserved
loop-c-preserved c =
    c.in_ok-take.ensures ∙ ap (λ text. text ++ encode_utf8 c.in-Some.c) c.loop-c.invariant
    ∙ flat_map_more encode_utf8 [] c.loop-c.yielded c.in-Some.c
