use Rattle.std.proofs.Common.{◌≡◌, true, min, take}
use Rattle.std.specs.List.{list_all}
use Rattle.scan_tokens.specs.Numbers.{base, limit, is_digit_of, value}
use Rattle.scan_tokens.proofs.number.value_of.Given as goal

abbrev pub invariant-loop-byte : goal.invariant-loop-byte
invariant-loop-byte l = record {
  in_base : l.base ≡ base l.fn.form;
  in_limit : l.limit ≡ limit l.fn.form;
  all_digits : list_all (is_digit_of (base l.fn.form)) (take l.byte-index l.digits) ≡ true;
  capped : l.value ≡ min (value (base l.fn.form) (take l.byte-index l.digits)) (limit l.fn.form);
}
