-- How far a text is scanned, and what its end or its refusal is.
use Rattle.std.proofs.Common.{◌≡◌, ◌≤◌, ◌<◌, List, [], ◌∷◌, ◌++◌, length, Option, Some, None, ◌⊎◌, inl, inr, ap, sym, refl, ◌∙◌, subst, append-nil, length-append, arith}
use Rattle.m2_tree.specs.declared.pos.Pos.{Pos}
use Rattle.m2_tree.specs.declared.token.Token.{Token}
use Rattle.m2_tree.specs.declared.token.Lexeme.{Lexeme}
use Rattle.m2_tree.specs.declared.token.Lexeme.TheVariants as lexeme
use Rattle.scan_tokens.specs.declared.refusal.TokenRule.{TokenRule}
use Rattle.scan_tokens.specs.declared.refusal.TokenRule.TheVariants.{TooLong}
use Rattle.scan_tokens.specs.declared.refusal.ScanRefusal.{ScanRefusal}
use Rattle.scan_tokens.specs.declared.refusal.ScanError.{ScanError}
use Rattle.scan_tokens.specs.declared.refusal.ScanError.TheVariants.{Refused, NoMemory}
use Rattle.scan_tokens.specs.Bytes.{Text}
use Rattle.scan_tokens.specs.Forms.{Member}
use Rattle.scan_tokens.specs.Division.{Divides, HasTokens, HasFault, Refuses, RefusesIn, bytes_of, tokens_behind, tokens_at, place, max_text}
use Rattle.scan_tokens.specs.Steps.{over, HasRoom, Takes, Skips, nothing, one_more, Stops, IfRefused}
use Rattle.scan_tokens.proofs.Places.{place_over, place_start}
use Rattle.scan_tokens.proofs.Walks.{room_behind}
use Rattle.scan_tokens.proofs.Refusals.{one_refusal}
use Rattle.scan_tokens.proofs.Divisions.{end_stuck, stuck_once, divides_once, divides_push, bytes_push, tokens_push, divides_whole, refuses_stuck, refuses_some}

-- The text is scanned up to this rest, and these are the tokens.
pub record Scanned (text rest : Text) (pos : Pos) (tokens : List Token) : Type 0 where
  pub members : List Member
  pub divides : Divides text members rest
  pub found : tokens ≡ tokens_behind [] members
  pub at : pos ≡ place (bytes_of members)
  pub room : HasRoom pos rest
  pub small : length text ≤ max_text

pub begins : (text : Text) → length text ≤ max_text → Scanned text text (record { line = 1; col = 1 }) []
begins text small = record {
  members = [];
  divides = refl;
  found = refl;
  at = sym place_start;
  room = (omega arith, omega arith);
  small = small;
}

pub goes_on : (text rest : Text) (pos : Pos) (tokens : List Token) (m : Option Lexeme) (after : Text) (next : Pos)
    (more : List Token)
    → Scanned text rest pos tokens → Takes rest pos m after next → more ≡ tokens ++ tokens_at pos m
    → Scanned text after next more
goes_on text rest pos tokens m after next more s h e =
    let w = h.0 in
    let front = bytes_of s.members in
    record {
      members = s.members ++ (w, m) ∷ [];
      divides = divides_push text s.members rest w after m s.divides h.1 h.3 h.4;
      found = e ∙ ap (λ ts. ts ++ tokens_at pos m) s.found ∙ ap (λ p. tokens_behind [] s.members ++ tokens_at p m) s.at
          ∙ sym (tokens_push [] s.members (w, m));
      at = h.5 ∙ ap (λ p. over p w) s.at ∙ sym (place_over front w) ∙ ap place (sym (bytes_push s.members (w, m)));
      room = room_behind w pos next rest after s.room h.1 h.5;
      small = s.small;
    }

pub skipped : (text rest : Text) (pos : Pos) (tokens : List Token) (after : Text) (next : Pos)
    → Scanned text rest pos tokens → Skips rest pos after next → Scanned text after next tokens
skipped text rest pos tokens _ _ s nothing = s
skipped text rest pos tokens _ _ s (one_more mid at after next h k) =
    goes_on text mid at tokens None after next tokens (skipped text rest pos tokens mid at s h) k
    (sym (append-nil tokens))

pub no_longer : (text : Text) (pos : Pos) (rest : Text) (next : Pos) → Skips text pos rest next
    → length rest ≤ length text
no_longer text pos _ _ nothing = omega arith
no_longer text pos _ _ (one_more mid at rest next h k) =
    omega (arith, no_longer text pos mid at h, ap length k.1, length-append k.0 rest)

-- A member was taken, and perhaps more behind it.
pub shorter : (text : Text) (pos : Pos) (m : Option Lexeme) (mid : Text) (at : Pos) (rest : Text) (next : Pos)
    → Takes text pos m mid at → Skips mid at rest next → length rest < length text
shorter text pos m mid at rest next h k =
    omega (arith, no_longer mid at rest next k, ap length h.1, length-append h.0 mid, h.2)

pub ends : (text rest : Text) (pos : Pos) (tokens more : List Token) → Scanned text rest pos tokens → rest ≡ []
    → more ≡ tokens ++ tokens_at pos (Some lexeme.End) → HasTokens text more
ends text rest pos tokens more s e d =
    let P : Text → Type 0 = Divides text s.members in
    let whole : text ≡ bytes_of s.members = divides_whole text s.members rest s.divides
    ∙ ap (λ r. bytes_of s.members ++ r) e ∙ append-nil (bytes_of s.members) in (
      s.members,
      subst P e s.divides,
      d ∙ ap (λ ts. ts ++ tokens_at pos (Some lexeme.End)) s.found
          ∙ ap (λ p. tokens_behind [] s.members ++ tokens_at p (Some lexeme.End)) (s.at ∙ ap place (sym whole)),
    )

least : (text rest : Text) (ms : List Member) (before : Text) (here : TokenRule) (broken : TokenRule) (other : Text)
    → Divides text ms rest → RefusesIn here rest before
    → ((f : TokenRule) (o : Text) → RefusesIn f rest o → length before ≤ length o) → HasFault text broken other
    → length (bytes_of ms ++ before) ≤ length other
least text rest ms before here broken other d h first k =
    let same = stuck_once text ms k.3.0 rest k.1 (refuses_stuck here rest before h) (refuses_stuck broken k.1 k.2 k.4) d
    k.3.1 in
    let P : Text → Type 0 = λ r. RefusesIn broken r k.2 in
    let le = first broken k.2 (subst P (sym same.1) k.4) in
    let front : bytes_of ms ≡ k.0 = ap bytes_of same.0 ∙ sym k.3.2 in
    omega (arith, le, ap length k.5, ap length front, length-append (bytes_of ms) before, length-append k.0 k.2)

pub stops : (text rest : Text) (pos : Pos) (tokens : List Token) (e : ScanError) → Scanned text rest pos tokens
    → Stops rest pos e → IfRefused (Refuses text) e
stops text rest pos tokens NoMemory s h = tt
stops text rest pos tokens (Refused r) s h =
    let front = bytes_of s.members in
    inr (
      s.small,
      front ++ h.0,
      (front, rest, h.0, (s.members, s.divides, refl), h.1, refl),
      h.2 ∙ ap (λ p. over p h.0) s.at ∙ sym (place_over front h.0),
      λ broken other k. least text rest s.members h.0 r.broken broken other s.divides h.1 h.3 k,
    )

pub tokens_once : (text : Text) (ts us : List Token) → HasTokens text ts → HasTokens text us → ts ≡ us
tokens_once text ts us h k =
    h.2 ∙ ap (λ ms. tokens_behind [] ms ++ tokens_at (place text) (Some lexeme.End)) (divides_once text h.0 k.0 h.1 k.1)
    ∙ sym k.2

pub never_both : (text : Text) (ts : List Token) (r : ScanRefusal) → length text ≤ max_text → HasTokens text ts
    → Refuses text r → ⊥
never_both text ts r small h (inl k) = omega (arith, small, k.0)
never_both text ts r small h (inr k) =
    let f = k.2 in
    let same = stuck_once text h.0 f.3.0 [] f.1 end_stuck (refuses_stuck r.broken f.1 f.2 f.4) h.1 f.3.1 in
    refuses_some r.broken f.1 f.2 f.4 (sym same.1)

pub too_long : (text : Text) (e : ScanError) → max_text < length text
    → e ≡ Refused (record { pos = record { line = 1; col = 1 }; broken = TooLong }) → IfRefused (Refuses text) e
too_long text e h is =
    let P : ScanError → Type 0 = λ e. IfRefused (Refuses text) e in
    subst P (sym is) (inl (h, refl, sym place_start))

-- An error, where the text has tokens, is that memory ran out.
pub only_memory : (text : Text) (e : ScanError) (ts : List Token) → length text ≤ max_text → HasTokens text ts
    → IfRefused (Refuses text) e → e ≡ NoMemory
only_memory text NoMemory ts small h k = refl
only_memory text (Refused r) ts small h k = absurd (never_both text ts r small h k)

-- A text that is refused is refused so, unless memory ran out.
pub only_refusal : (text : Text) (e : ScanError) (r : ScanRefusal) → Refuses text r → IfRefused (Refuses text) e
    → (e ≡ Refused r) ⊎ (e ≡ NoMemory)
only_refusal text NoMemory r h k = inr refl
only_refusal text (Refused q) r h k = inl (ap Refused (one_refusal text q r k h))
