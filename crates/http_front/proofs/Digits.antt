-- What writing a number digit by digit needs.
pub use Rattle.cost_num.proofs.Digits.{length-decimal_digit, length-decimal_step, decimal_digit, decimal_step}

pub ruleset digit_by_digit = (length-decimal_digit, length-decimal_step, decimal_digit, decimal_step)
