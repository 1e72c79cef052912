-- A number that is written is read back.
use Rattle.std.proofs.Common.{◌≡◌, ℕ, suc, ◌^◌, ◌<◌, true, false, eqb, leb, length, get_or, ℤ, pos, negsuc, nat_abs, Some, decimal, arith, rules}
use Rattle.std.proofs.lemmas.Bool.Decides.{nat_tests}
use Rattle.std.proofs.lemmas.Str.Parse.{IsNumeralModel, numerals_by_fold, tells_all_ascii_digits, not_in_digits}
use Rattle.std.proofs.lemmas.Fmt.{digits_decimal, digits_value-decimal, length-decimal-le, decimal_nonempty}
use Rattle.std.specs.Fmt.{signed_decimal}
use Rattle.std.specs.Str.{all_ascii_digits}
use Rattle.script.specs.Numbers.{read_on, natural, number, ReadsBack}

own : IsNumeralModel (λ ds. all_ascii_digits ds ≡ true) (read_on 0)
own = numerals_by_fold _ tells_all_ascii_digits read_on (search rules)

natural_back : (n : ℕ) → n < 10 ^ 9 → natural (decimal n) ≡ Some n
natural_back n h =
    let some : leb 1 (length (decimal n)) ≡ true = let s = decimal_nonempty n (omega arith) in grind (arith, nat_tests) in
    let short : leb (length (decimal n)) 9 ≡ true = let l = length-decimal-le 9 n (omega arith) h (omega arith) in grind (arith, nat_tests) in
    rw (some, digits_decimal own n (omega arith), short, digits_value-decimal own n (omega arith))

no_minus : (n : ℕ) → n < 10 ^ 9 → eqb (get_or (decimal n) 0 0) 45 ≡ false
no_minus n h =
    let s = decimal_nonempty n (omega arith) in
    let m = not_in_digits own (decimal n) 45 (digits_decimal own n (omega arith)) (λ i. omega arith) 0 s in
    grind (arith, nat_tests)

number_back : (z : ℤ) → nat_abs z < 10 ^ 9 → number (signed_decimal z) ≡ Some z
number_back (pos n) h = rw (no_minus n h, natural_back n h)
number_back (negsuc n) h = rw (natural_back (suc n) h)

pub reads_back : ReadsBack
reads_back = record { natural_back = natural_back; number_back = number_back }
