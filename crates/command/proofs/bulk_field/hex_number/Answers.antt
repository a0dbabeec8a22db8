use Rattle.std.proofs.Common.{get_or, sym, ◌∙◌, arith, rules}
use Rattle.std.proofs.lemmas.List.{at_drop_all}
use Rattle.command.specs.Fields.{hex_number}
use Rattle.command.proofs.FieldSteps.{number_more, digit_small, power_more, power_few}
use Rattle.command.proofs.bulk_field.hex_number.Goals as goal

pub returns-in_err-digit : goal.returns-in_err-digit
returns-in_err-digit c =
    c.from_residual.ensures
    ∙ sym (number_more c.loop-octet.number _ _ _ c.loop-octet-test.true c.in_err-digit.ensures)
    ∙ c.loop-octet.invariant.1

pub overflow_mul-number : goal.overflow_mul-number
overflow_mul-number c = let p = power_few c.loop-octet.octet-index (omega arith) in search rules

pub overflow_add-number : goal.overflow_add-number
overflow_add-number c =
    let p = power_few c.loop-octet.octet-index (omega arith) in
    let d = digit_small (get_or c.args.field.now c.loop-octet.octet-index 0) _ c.in_ok-digit.ensures in
    search rules

pub loop-octet-preserved : goal.loop-octet-preserved
loop-octet-preserved c = (
  power_more _ _ _ c.loop-octet.invariant.0 (digit_small (get_or c.args.field.now c.loop-octet.octet-index 0) _ c.in_ok-digit.ensures),
  sym (number_more c.loop-octet.number _ _ _ c.loop-octet-test.true c.in_ok-digit.ensures) ∙ c.loop-octet.invariant.1,
)

pub returns : goal.returns
returns c = sym (at_drop_all (hex_number c.loop-octet.number) _ _ c.loop-octet-test.false) ∙ c.loop-octet.invariant.1
