-- Demand 3, proved: what shows of an event is settled by what two conversations agree on, so it is alike in both.
-- Assumes nothing.
use mathlib.Core.Bool.{Bool, true, false}
use mathlib.Core.List.{List, [], ◌∷◌, ◌++◌, map}
use mathlib.Core.Path.{◌≡◌, refl, sym, ap, ap₂, ◌∙◌}
use Prim.Native.Nat.{ℕ, ◌+◌, ◌*◌, ◌/◌}
use lib.ListN.{length}
use Rattle.secure_cipher.proofs.PadLaws.{length-pad_data}
use Rattle.secure_session.specs.declared.session.End.{End}
use Rattle.secure_session.specs.declared.session.End.TheVariants.{Controller, Reader}
use Rattle.secure_seal.specs.Seal.{type_for, data_len_for, total_of, sealed_control}
use Rattle.packet_build.specs.Build.{head_bytes}
use Rattle.secure_seal.proofs.SealLaws.{steps_for, head_with}
use Rattle.channel.specs.Talk.{Send, direction_of, asked_in, Event}
use Rattle.channel.specs.Demand.{Conversation, hand_of, events_of, Proper, Agree, Each, Arrived, besides, Alike, Demand3, Measured}
use Rattle.channel.proofs.Shaken.{shaken, shaken-back, succeeded}
use Rattle.channel.proofs.TalkLaws.{open_for, Heard, ReadyFrom, any_able, talk_heard}

-- ---- one conversation

-- what each pair has, it has in a weaker form; and what is equal in each pair is equal in all
each_weaker : {A B : Type 0} (R Q : A → B → Type 0) → ((a : A) (b : B) → R a b → Q a b) → (xs : List A) (ys : List B) → Each R xs ys → Each Q xs ys
each_weaker R Q w [] [] h = tt
each_weaker R Q w [] (b ∷ ys) h = h
each_weaker R Q w (a ∷ xs) [] h = h
each_weaker R Q w (a ∷ xs) (b ∷ ys) h = (w a b h.0, each_weaker R Q w xs ys h.1)

each_equal : {A B C : Type 0} (f : A → C) (g : B → C) (xs : List A) (ys : List B) → Each (λ (a : A) (b : B). g b ≡ f a) xs ys → map g ys ≡ map f xs
each_equal f g [] [] h = refl
each_equal f g [] (b ∷ ys) h = absurd h
each_equal f g (a ∷ xs) [] h = absurd h
each_equal f g (a ∷ xs) (b ∷ ys) h = λ i. h.0 i ∷ each_equal f g xs ys h.1 i

pub each_sized : (ss : List Send) (es : List Event) → Each Arrived ss es → map (λ (e : Event). length e.frame) es ≡ map (λ (s : Send). total_of (asked_in s)) ss
each_sized ss es h = each_equal _ _ ss es (each_weaker Arrived (λ (s : Send) (e : Event). length e.frame ≡ total_of (asked_in s)) (λ s e a. a.size) ss es h)

-- the cipher calls at the two ends, told and as the paper counts them
abbrev pub calls_told : Event → ℕ × ℕ
calls_told e = (e.seal_calls, e.open_calls)

abbrev pub calls_due : Send → ℕ × ℕ
calls_due s = (steps_for s.encrypt (length s.payload), steps_for s.encrypt (length s.payload))

module _ (t : Conversation) (p : Proper t) where
  ready-from : (w : End) → ReadyFrom w (hand_of t).controller (hand_of t).reader
  unfolding ReadyFrom
  ready-from Controller = shaken t.wires t.controller t.reader t.rnd_a t.rnd_b p.wires p.apart p.rnd_a p.rnd_b
  ready-from Reader = shaken-back t.wires t.controller t.reader t.rnd_a t.rnd_b p.wires p.apart p.rnd_a p.rnd_b

  heard : Each Heard t.sends (events_of t)
  heard = talk_heard (hand_of t).controller (hand_of t).reader t.sends (any_able _ _ t.sends ready-from) p.sends

  -- the compared bytes end exactly where the encrypted data start, or the MAC
  pub compared-to-the-end : Each Measured t.sends (events_of t)
  compared-to-the-end = each_weaker Heard Measured (λ s e h. h.measured) t.sends (events_of t) heard

  pub calls-counted : map calls_told (events_of t) ≡ map calls_due t.sends
  calls-counted = each_equal calls_due calls_told t.sends (events_of t)
      (each_weaker Heard (λ (s : Send) (e : Event). calls_told e ≡ calls_due s) (λ s e h. λ i. (h.seal_calls i, h.open_calls i)) t.sends (events_of t) heard)

-- ---- two

data_same : (e : Bool) (x y : List ℕ) → length x ≡ length y → data_len_for e x ≡ data_len_for e y
unfolding data_len_for
data_same false x y h = h
data_same true x y h = length-pad_data x ∙ ap (λ (n : ℕ). (n / 16 + 1) * 16) h ∙ sym (length-pad_data y)

module _ (s t : Send) (h : Agree s t) where
  total-same : total_of (asked_in s) ≡ total_of (asked_in t)
  total-same = ap (λ (n : ℕ). 14 + n) (data_same s.encrypt s.payload t.payload h.size ∙ ap (λ (e : Bool). data_len_for e t.payload) h.encrypt)

  type-same : type_for (direction_of s.who) s.encrypt ≡ type_for (direction_of t.who) t.encrypt
  type-same = ap₂ (λ (w : End) (e : Bool). type_for (direction_of w) e) h.who h.encrypt

  head-same : head_with (asked_in s) ≡ head_with (asked_in t)
  head-same = λ i. head_bytes (h.addr i) (sealed_control (h.sqn i)) (total-same i) ++ (2 ∷ type-same i ∷ h.code i ∷ [])

  open_by : (e : Bool) → s.encrypt ≡ e → open_for e (asked_in s) ≡ open_for e (asked_in t)
  unfolding open_for
  open_by true p = head-same
  open_by false p = ap₂ (λ (x y : List ℕ). x ++ y) head-same (h.plain p)

  open-same : open_for s.encrypt (asked_in s) ≡ open_for t.encrypt (asked_in t)
  open-same = open_by s.encrypt refl ∙ ap (λ (e : Bool). open_for e (asked_in t)) h.encrypt

  calls_same : steps_for s.encrypt (length s.payload) ≡ steps_for t.encrypt (length t.payload)
  calls_same = ap₂ steps_for h.encrypt h.size

  alike : (d e : Event) → Heard s d → Heard t e → Alike (s, d) (t, e)
  alike d e p q = record {
    size = p.arrived.size ∙ total-same ∙ sym q.arrived.size;
    bytes = p.bytes ∙ open-same ∙ sym q.bytes;
    seal_calls = p.seal_calls ∙ calls_same ∙ sym q.seal_calls;
    open_calls = p.open_calls ∙ calls_same ∙ sym q.open_calls;
  }

all_alike : (ss ts : List Send) (ds es : List Event) → Each Agree ss ts → Each Heard ss ds → Each Heard ts es → Each Alike (besides ss ds) (besides ts es)
all_alike [] [] ds es h p q = tt
all_alike [] (t ∷ ts) ds es h p q = absurd h
all_alike (s ∷ ss) [] ds es h p q = absurd h
all_alike (s ∷ ss) (t ∷ ts) [] es h p q = absurd p
all_alike (s ∷ ss) (t ∷ ts) (d ∷ ds) [] h p q = absurd q
all_alike (s ∷ ss) (t ∷ ts) (d ∷ ds) (e ∷ es) h p q = (alike s t h.0 d e p.0 q.0, all_alike ss ts ds es h.1 p.1 q.1)

-- ---- the theorem
pub demand3 : (t u : Conversation) → Proper t → Proper u → Each Agree t.sends u.sends → Demand3 t u
demand3 t u p q h = record {
  shook₁ = succeeded t.wires t.controller t.reader t.rnd_a t.rnd_b p.wires p.apart p.rnd_a p.rnd_b;
  shook₂ = succeeded u.wires u.controller u.reader u.rnd_a u.rnd_b q.wires q.apart q.rnd_a q.rnd_b;
  arrived₁ = each_weaker Heard Arrived (λ s e h. h.arrived) t.sends (events_of t) (heard t p);
  arrived₂ = each_weaker Heard Arrived (λ s e h. h.arrived) u.sends (events_of u) (heard u q);
  alike = all_alike t.sends u.sends (events_of t) (events_of u) h (heard t p) (heard u q);
}
