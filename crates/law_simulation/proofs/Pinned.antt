-- How texts are placed in pieces of code.
use Rattle.std.proofs.Common.{ℕ, suc, ◌+◌, List, [], ◌∷◌, ◌++◌, refl, ap, ◌∙◌, arith}
use Rattle.wasm_tree.specs.declared.instr.Instr.{Instr}
use Rattle.def_scheme.specs.Coded.{Coded, Counts, Setting, plain, ◌⨾◌, nothing, within, with_address, with_number, with_text, with_setting, address_local, number_local}
use Rattle.def_scheme.specs.Steps.{leaving, under}
use Rattle.law_simulation.specs.Scene.{Grows}
use Rattle.law_simulation.proofs.Parts.{grows_more, grows_same}
use Rattle.law_simulation.specs.Placed.{Pins}

pub pins_plain : (a : ℕ) (code : List Instr) → Pins a a (plain code) (plain code)
pins_plain a code = record { is = λ s c. refl; grows = λ s c. grows_same c }

pub pins_then : {a b c : ℕ} {x x' y y' : Coded} → Pins a b x x' → Pins b c y y' → Pins a c (x ⨾ y) (x' ⨾ y')
pins_then {x = x} {x' = x'} {y = y} {y' = y'} hx hy = record {
  is = λ s c.
      ap (λ (f : List Instr × Counts). (f.0 ++ (y s f.1).0, (y s f.1).1)) (hx.is s c)
      ∙ ap (λ (g : List Instr × Counts). ((x' s c).0 ++ g.0, g.1)) (hy.is s (x' s c).1);
  grows = λ s c. grows_more (hx.grows s c) (hy.grows s (x' s c).1);
}

pub pins_setting : {a b : ℕ} {f g : Setting → Coded} → ((s : Setting) → Pins a b (f s) (g s))
    → Pins a b (with_setting f) (with_setting g)
pins_setting h = record { is = λ s c. (h s).is s c; grows = λ s c. (h s).grows s c }

pub pins_number : {a b : ℕ} {f g : ℕ → Coded} → ((w : ℕ) → Pins a b (f w) (g w))
    → Pins a b (with_number f) (with_number g)
pins_number h = record {
  is = λ s c. (h (number_local s c.numbers)).is s (record c { numbers = suc c.numbers });
  grows = λ s c. grows_more (one_number c)
      ((h (number_local s c.numbers)).grows s (record c { numbers = suc c.numbers }));
}
  where
    one_number : (c : Counts) → Grows c (record c { numbers = suc c.numbers })
    one_number c = record { numbers = omega arith; addresses = omega arith }

pub pins_address : {a b : ℕ} {f g : ℕ → Coded} → ((w : ℕ) → Pins a b (f w) (g w))
    → Pins a b (with_address f) (with_address g)
pins_address h = record {
  is = λ s c. (h (address_local s c.addresses)).is s (record c { addresses = suc c.addresses });
  grows = λ s c. grows_more (one_address c)
      ((h (address_local s c.addresses)).grows s (record c { addresses = suc c.addresses }));
}
  where
    one_address : (c : Counts) → Grows c (record c { addresses = suc c.addresses })
    one_address c = record { numbers = omega arith; addresses = omega arith }

pub pins_within : {a b : ℕ} {x y : Coded} (labels : ℕ) (wrap : List Instr → List Instr) → Pins a b x y
    → Pins a b (within labels wrap x) (within labels wrap y)
pins_within labels wrap h = record {
  is =
      λ s c. ap (λ (q : List Instr × Counts). (wrap q.0, q.1)) (h.is (record s { exit = s.exit + labels }) c);
  grows =
      λ s c. h.grows (record s { exit = s.exit + labels }) c;
}

pub pins_leaving : {a b : ℕ} {x y : Coded} (exit : ℕ) (wrap : List Instr → List Instr) → Pins a b x y
    → Pins a b (leaving exit wrap x) (leaving exit wrap y)
pins_leaving exit wrap h = record {
  is =
      λ s c. ap (λ (q : List Instr × Counts). (wrap q.0, q.1)) (h.is (record s { exit = exit }) c);
  grows =
      λ s c. h.grows (record s { exit = exit }) c;
}

pub pins_under : {a b : ℕ} {x y : Coded} (w : ℕ) → Pins a b x y → Pins a b (under w x) (under w y)
pins_under w h = record {
  is = λ s c. h.is (record s { withs = s.withs ++ w ∷ [] }) c;
  grows =
      λ s c. h.grows (record s { withs = s.withs ++ w ∷ [] }) c;
}

-- the place of a text
pub pins_text : (a n : ℕ) (f : ℕ → Coded) → Pins (a + n) (a + n) (f a) (f a) → Pins a (a + n) (with_text n f) (f a)
pins_text a n f h = record { is = λ s c. h.is s c; grows = h.grows }

pub pins_none : (a : ℕ) → Pins a a nothing nothing
pins_none a = pins_plain a []
