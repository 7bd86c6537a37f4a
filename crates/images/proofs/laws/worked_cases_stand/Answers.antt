use Rattle.std.proofs.Common.{refl}
use Rattle.images.proofs.laws.worked_cases_stand.Goals as goal

pub returns : goal.returns
returns c = record {
  read_minus = refl;
  punched_minus = refl;
  read_blanks = refl;
  read_wrong = refl;
  eighth_cut = refl;
  eighth_adjusted = refl;
  sum_wide = refl;
  sum_fits = refl;
  by_zero = refl;
  scale = refl;
  level = refl;
  k_minus = refl;
  k_shown = refl;
  j_zero = refl;
  k_zero = refl;
  one_zero = refl;
  all_decimals = refl;
  three_plain = refl;
  one_thousands = refl;
}
