use Rattle.std.proofs.Common.{sym, ap, ◌∙◌, length}
use Rattle.hex.specs.Hex.{encode_lower}
use Rattle.tws_compare.proofs.Shown.{digits_decode, one_ok}
use Rattle.tws_compare.proofs.password.digits_in.Goals as goal

pub returns-in_default-clause-none : goal.returns-in_default-clause-none
returns-in_default-clause-none c = λ p fits four is. c.in_default.not-Ok p (c.from_hex.ensures ∙ digits_decode c.args.digits.now p fits four is)

pub returns-else-are_digits_of-clause-none : goal.returns-else-are_digits_of-clause-none
returns-else-are_digits_of-clause-none c = λ p fits four is.
    let same = one_ok c.from_hex.result c.in-Ok.password p c.in-Ok.is (c.from_hex.ensures ∙ digits_decode c.args.digits.now p fits four is) in
    c.are_digits_of.ensures.no c.if-are_digits_of.false (is ∙ ap encode_lower (sym same)) (ap length same ∙ four)
