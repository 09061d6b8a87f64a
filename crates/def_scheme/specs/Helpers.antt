-- The code of the helpers that each module has: copy, fill, check, div and mod.
pub use Rattle.wasm_helpers.specs.Codes.{raise, copy_raises, copy_turn, copy_code, fill_raises, fill_turn, fill_code, check_tests, check_code, divisor_checked, div_rest, mod_rest, mod_typed, helper, check_typed}
