-- Worked cases of the rules, each by computing.
use Rattle.std.specs.Prelude.{◌≡◌, pos, negsuc, Some, None, Ok, Err, codes}
use Rattle.std.specs.declared.cmp.Ordering.TheVariants.{Equal}
use Rattle.numbers.specs.declared.kinds.ReadError.TheVariants.{Column}
use Rattle.numbers.specs.declared.kinds.ArithmeticError.TheVariants.{TooWide, ZeroDivisor, Scale}
use Rattle.numbers.specs.declared.kinds.Rounding.TheVariants.{Cut, HalfAdjust}
use Rattle.images.specs.declared.edits.EditCode.TheVariants.{One, Three, J, K}
use Rattle.numbers.specs.Reading.{read_amount}
use Rattle.numbers.specs.Exact.{exact, plus, settled, divided, compared}
use Rattle.images.specs.Images.{image_of}
use Rattle.images.specs.Laws.{shown}

-- the table: a new case is one line here and one refl in its proof
pub record Worked : Type 0 where
  -- 0012} with 2 decimals is −1.20, and its image unedited is the same columns
  pub read_minus : read_amount 5 4 (codes "0012}") ≡ Ok (negsuc 119)
  pub punched_minus : image_of None 5 2 (negsuc 119) ≡ codes "0012}"
  -- blanks are zero, and the first wrong column is told by its place on the card
  pub read_blanks : read_amount 5 4 (codes "     ") ≡ Ok (pos 0)
  pub read_wrong : read_amount 5 4 (codes "0A12}") ≡ Err (Column 5)
  -- −1 by 8 to 2 decimals is −0.12, half-adjusted −0.13
  pub eighth_cut : divided Cut 5 2 (negsuc 0) 0 (pos 8) 0 ≡ Ok (negsuc 11)
  pub eighth_adjusted : divided HalfAdjust 5 2 (negsuc 0) 0 (pos 8) 0 ≡ Ok (negsuc 12)
  -- 999.99 plus 0.01 is too wide in 5 digits, and not in 6
  pub sum_wide : settled Cut 5 2 (plus (exact (pos 99999) 2) (exact (pos 1) 2)) ≡ Err TooWide
  pub sum_fits : settled Cut 6 2 (plus (exact (pos 99999) 2) (exact (pos 1) 2)) ≡ Ok (pos 100000)
  -- a zero divisor is told before any width, and a scale over nine before a zero divisor
  pub by_zero : divided Cut 1 0 (pos 99999) 0 (pos 0) 0 ≡ Err ZeroDivisor
  pub scale : divided Cut 9 9 (pos 1) 0 (pos 0) 1 ≡ Err Scale
  -- 1.50 is 1.5
  pub level : compared (exact (pos 150) 2) (exact (pos 15) 1) ≡ Equal
  -- −1234.50 in 7 digits under K
  pub k_minus : image_of (Some K) 7 2 (negsuc 123449) ≡ codes " 1,234.50-"
  pub k_shown : shown (codes " 1,234.50-") ≡ negsuc 123449
  -- zero under J, K and 1
  pub j_zero : image_of (Some J) 7 2 (pos 0) ≡ codes "      .00 "
  pub k_zero : image_of (Some K) 7 2 (pos 0) ≡ codes "          "
  pub one_zero : image_of (Some One) 7 0 (pos 0) ≡ codes "        0"
  -- all digits decimals, and thousands without and with commas
  pub all_decimals : image_of (Some One) 2 2 (pos 5) ≡ codes ".05"
  pub three_plain : image_of (Some Three) 9 0 (pos 1000000) ≡ codes "  1000000"
  pub one_thousands : image_of (Some One) 9 0 (pos 1000000) ≡ codes "  1,000,000"
