use Rattle.std.proofs.Common.{◌-◌, [], ◌∷◌, ◌++◌, decimal, arith, length-append}
use Rattle.std.proofs.lemmas.Fmt.{decimal_digit}
use Rattle.std.proofs.lemmas.List.{take_all}
use Rattle.cbor4ii_tool.proofs.decimal.write_line.Goals as goal

pub returns-then-number-lt10-clause-appends : goal.returns-then-number-lt10-clause-appends
returns-then-number-lt10-clause-appends g c =
    rw (decimal_digit c.args.number c.if-number-lt10.true) c.push.ensures.appends

pub returns-clause-appends : goal.returns-clause-appends
returns-clause-appends g c =
    let put = c.put_digits-start in
    let line = decimal c.args.number ++ 10 ∷ [] in
    let size = length-append (decimal c.args.number) (10 ∷ []) in
    let all = take_all (21 - put.result) line (omega (arith, put.ensures.start, size)) in
    rw (put.ensures.digits, all) at c.push-2.ensures.appends
