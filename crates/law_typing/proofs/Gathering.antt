-- All broken rules, and the least of them.
use Rattle.std.proofs.Common.{◌≡◌, Bool, true, false, cond, [], ◌⊎◌, inl, inr, refl, sym, arith}
use Rattle.std.specs.List.{Contains}
use Rattle.std.proofs.lemmas.List.Elements.{Contains-append_left, Contains-append_right, Contains-append_cases, Contains-push, Contains-push_cases}
use Rattle.m2_rule.specs.declared.breach.Breach.{Breach}
use Rattle.m2_rule.specs.Breaches.{is_less}
use Rattle.check_scope.specs.Elaborated.{every, least}
use Rattle.law_typing.specs.Judging.{all_of_them, the_least}
use Rattle.law_typing.proofs.Order.{itself, above, below}
use Rattle.law_typing.proofs.Combining.{Lawful}

only_one : (f h : Breach) → Contains [] h ⊎ (f ≡ h) → h ≡ f
only_one f h (inl c) = absurd (omega (arith, c.1))
only_one f h (inr e) = sym e

pub all_lawful : Lawful every all_of_them
all_lawful = record {
  one_among = λ f h m. only_one f h (Contains-push_cases [] f h m);
  one_covers = λ f. Contains-push [] f;
  join_among = λ r q f m. Contains-append_cases r q f m;
  covers_first = λ r q f c. Contains-append_left r q f c;
  covers_second = λ r q f c. Contains-append_right r q f c;
}

lesser_is : (b : Bool) (r q f : Breach) → f ≡ cond b q r → (f ≡ r) ⊎ (f ≡ q)
lesser_is true r q f e = inr e
lesser_is false r q f e = inl e

lesser_first : (b : Bool) (r q f : Breach) → is_less q r ≡ b → is_less f r ≡ false → is_less f (cond b q r) ≡ false
lesser_first true r q f h e = below f r q e h
lesser_first false r q f h e = e

lesser_second : (b : Bool) (r q f : Breach) → is_less q r ≡ b → is_less f q ≡ false → is_less f (cond b q r) ≡ false
lesser_second true r q f h e = e
lesser_second false r q f h e = above f q r e h

pub least_lawful : Lawful least the_least
least_lawful = record {
  one_among = λ f h e. e;
  one_covers = λ f. itself f;
  join_among = λ r q f e. lesser_is (is_less q r) r q f e;
  covers_first = λ r q f c. lesser_first (is_less q r) r q f refl c;
  covers_second = λ r q f c. lesser_second (is_less q r) r q f refl c;
}
