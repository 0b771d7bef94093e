-- A record is written field by field, and each field is read at its place.
use mathlib.Core.Path.{◌≡◌, refl, sym, ap, ◌∙◌, subst}
use mathlib.Core.Bool.{true}
use mathlib.Core.List.{List, [], ◌∷◌, ◌++◌, append-nil}
use Prim.Native.Nat.{ℕ, zero, suc, ◌+◌, ◌*◌, ◌^◌, ◌≤◌, ◌<◌, min}
use native.Mathlib.Nat.{pow-succ', pow-le-pow_right}
use native.Mathlib.Omega.{arith}
use borrow.Author.Tests.{le-leb, leb-true, ltb-true, eq-eqb}
use lib.Dec.{leb, ltb}
use lib.ListN.{length, take, drop, get_or, length-append, length-drop, take-append-drop}
use lib.Seq.{take_all, take_at, drop_at, drop-cons, drop-drop, length-take-le, get_or-take}
use Rattle.octets.specs.Octets.{Octets, none, more, word}
use Rattle.octets.proofs.Booleans.{both}
use Rattle.octets.proofs.Octets.{octets_take, octets_drop}
use Rattle.rules.specs.Limits.{most_number, most_key_id, priorities, large_window, count_limit}
use Rattle.rules.specs.Windows.{sound_window}
use Rattle.rules.specs.Header.{part}
use Rattle.rules.specs.Records.{sound_sender, sound_receiver, window_of}
use Rattle.rules.specs.declared.Sender.{Sender}
use Rattle.rules.specs.declared.Receiver.{Receiver}
use Rattle.rules.specs.declared.Counts.{Counts}
use Rattle.rules.proofs.Steps.{sound_parts, sound_size}
use Rattle.kondrivai.specs.Numbers.{octets_of, octets_of_each, words}
use Rattle.kondrivai.specs.Front.{front_octets, sender_kind, receiver_kind, kind_in, layout_in}
use Rattle.kondrivai.specs.Layout1.{layout, sender_size, is_sender, sender_in, sender_octets, receiver_size, counts_octets, is_receiver, counts_in, receiver_in, receiver_octets}
use Rattle.kondrivai.specs.Undone.{TypedSender, TypedReceiver, WrittenReads, ReadWrites, FrontTells}
use Rattle.kondrivai.proofs.Numbers.{octets_of_size, word_octets_lem, octets_word, each_size, words_octets, octets_words}
use Rattle.kondrivai.proofs.Fronts.{of_kind, of_layout, of_front, sender_is, receiver_is, sender_size_lem, receiver_size_lem}

-- the field x at place i, and what comes after it
module _ (i n : ℕ) (b x rest : List ℕ) (size : length x ≡ n) (e : drop i b ≡ x ++ rest) where
  field : part b i n ≡ x
  field = ap (take n) e ∙ take_at x rest n size

  behind : drop (i + n) b ≡ rest
  behind = sym (drop-drop n i b) ∙ ap (drop n) e ∙ drop_at x rest n size

-- the other way
onward : (i n : ℕ) (b : List ℕ) → part b i n ++ drop (i + n) b ≡ drop i b
onward i n b = ap (λ (t : List ℕ). part b i n ++ t) (sym (drop-drop n i b)) ∙ take-append-drop n (drop i b)

-- a number read is written as it stood
number_back : (i n : ℕ) (b : List ℕ) → Octets b → i + n ≤ length b → octets_of n (word (part b i n)) ≡ part b i n
number_back i n b o l =
    ap (λ (k : ℕ). octets_of k (word (part b i n))) (sym (length-take-le n (drop i b) (omega (arith, length-drop i b))))
    ∙ octets_word (octets_take n (octets_drop i o))

-- a number read fits its octets
below : {l : List ℕ} → Octets l → word l < 256 ^ length l
below none = omega arith
below (more {x} {l} h o) = omega (arith, below o, pow-succ' 256 (length l))

part_below : (i n : ℕ) (b : List ℕ) → Octets b → i + n ≤ length b → word (part b i n) < 256 ^ n
part_below i n b o l =
    subst (λ (k : ℕ). word (part b i n) < 256 ^ k) (length-take-le n (drop i b) (omega (arith, length-drop i b))) (below (octets_take n (octets_drop i o)))

-- the four counts as one list
counts_list : (b : List ℕ) → words 4 4 (drop 26 b) ≡ word (part b 26 4) ∷ word (part b 30 4) ∷ word (part b 34 4) ∷ word (part b 38 4) ∷ []
unfolding words
counts_list b = rw (drop-drop 4 26 b, drop-drop 4 30 b, drop-drop 4 34 b)

module _ (s : Sender) (typed : TypedSender s) (sound : sound_sender s ≡ true) where
  sender_tests : (leb s.key_id most_key_id ≡ true) × (leb s.last most_number ≡ true)
  unfolding sound_sender
  sender_tests = both (leb s.key_id most_key_id) (leb s.last most_number) sound

  sender_length : length (sender_octets s) ≡ sender_size
  unfolding sender_octets
  sender_length = simp length-append (omega (arith, typed.address, typed.key, octets_of_size 6 s.last))

  pub sender_written : is_sender (sender_octets s) ≡ true
  unfolding is_sender sender_octets
  sender_written = rw (eq-eqb _ sender_size sender_length, sender_tests.0)

  pub sender_reads : sender_in (sender_octets s) ≡ s
  unfolding sender_in sender_octets
  sender_reads =
      let b = sender_octets s in
      let after-key = octets_of 6 s.last in
      let after-address = s.key ++ after-key in
      let key-at = behind 3 6 b s.address after-address typed.address refl in
      let last-at = behind 9 16 b s.key after-key typed.key key-at in
      let last_is = ap (take 6) last-at ∙ take_all 6 after-key (omega (arith, octets_of_size 6 s.last)) in
      rw (field 3 6 b s.address after-address typed.address refl, field 9 16 b s.key after-key typed.key key-at, last_is, word_octets_lem 6 s.last (omega (arith, leb-true s.last most_number sender_tests.1)))

module _ (b : List ℕ) (octets : Octets b) (is : is_sender b ≡ true) where
  pub sender_back : sender_octets (sender_in b) ≡ b
  unfolding sender_in sender_octets
  sender_back =
      let size = sender_size_lem b is in
      let last = number_back 25 6 b octets (omega (arith, size)) ∙ take_all 6 (drop 25 b) (omega (arith, length-drop 25 b, size)) in
      ap (λ (t : List ℕ). sender_kind ∷ layout ∷ get_or b 2 0 ∷ t)
      (ap (λ (t : List ℕ). part b 3 6 ++ (part b 9 16 ++ t)) last
      ∙ ap (λ (t : List ℕ). part b 3 6 ++ t) (onward 9 16 b)
      ∙ onward 3 6 b)
      ∙ sym (of_front sender_kind layout sender_size b (sender_is b is).0 (omega arith) ∙ ap (λ (t : List ℕ). sender_kind ∷ layout ∷ t) (drop-cons b 2 0 (omega (arith, size))))

  pub sender_sound : sound_sender (sender_in b) ≡ true
  unfolding sound_sender sender_in
  sender_sound = rw ((sender_is b is).1, le-leb (word (part b 25 6)) most_number (omega (arith, part_below 25 6 b octets (omega (arith, sender_size_lem b is)))))

module _ (r : Receiver) (typed : TypedReceiver r) (sound : sound_receiver r ≡ true) where
  -- the windows' numbers and bits fit their octets
  number_fits : (p : ℕ) → p < length r.replay → get_or r.replay p 0 < 256 ^ 6
  unfolding sound_window
  number_fits p l =
      let q = both (leb (get_or r.replay p 0) most_number) _ ((sound_parts r sound).1 p (omega (arith, typed.replay))) in
      omega (arith, leb-true (get_or r.replay p 0) most_number q.0)

  bits_fit : (p : ℕ) → p < length r.seen → get_or r.seen p 0 < 256 ^ 2
  unfolding sound_window
  bits_fit p l =
      let w = window_of r p in
      let q = both (leb w.greatest most_number) _ ((sound_parts r sound).1 p (omega (arith, typed.seen))) in
      let t = both (ltb w.seen (2 ^ min w.size w.greatest)) _ q.1 in
      let most = pow-le-pow_right {n = 2} (omega arith) {i = min w.size w.greatest} {j = large_window} (omega (arith, sound_size r sound)) in
      omega (arith, ltb-true w.seen (2 ^ min w.size w.greatest) t.0, most)

  receiver_length : length (receiver_octets r) ≡ receiver_size
  unfolding receiver_octets
  receiver_length =
      simp length-append
      (omega (
        arith,
        typed.peer,
        typed.key,
        typed.replay,
        typed.seen,
        each_size 4 (r.counts.format_errors ∷ r.counts.replays ∷ r.counts.decrypt_errors ∷ r.counts.opened ∷ []),
        each_size 6 r.replay,
        each_size 2 r.seen,
      ))

  pub receiver_written : is_receiver (receiver_octets r) ≡ true
  unfolding is_receiver receiver_octets
  receiver_written = rw (eq-eqb _ receiver_size receiver_length, (sound_parts r sound).0)

  counts_read : (rest : List ℕ) → drop 26 (receiver_octets r) ≡ counts_octets r.counts ++ rest → counts_in (receiver_octets r) ≡ r.counts
  unfolding counts_in
  counts_read rest e =
      let c = r.counts in
      let b = receiver_octets r in
      let xs = c.format_errors ∷ c.replays ∷ c.decrypt_errors ∷ c.opened ∷ [] in
      let is = sym (counts_list b) ∙ ap (words 4 4) e ∙ words_octets 4 xs rest (fits c.format_errors c.replays c.decrypt_errors c.opened typed.format_errors typed.replays typed.decrypt_errors typed.opened) in
      ap (λ (l : List ℕ). counts_of l) is
    where
      counts_of : List ℕ → Counts
      counts_of l = record { format_errors = get_or l 0 0; replays = get_or l 1 0; decrypt_errors = get_or l 2 0; opened = get_or l 3 0 }

      fits : (w x y z : ℕ) → w < count_limit → x < count_limit → y < count_limit → z < count_limit → (p : ℕ) → p < 4 → get_or (w ∷ x ∷ y ∷ z ∷ []) p 0 < 256 ^ 4
      fits w x y z a b c d zero l = a
      fits w x y z a b c d (suc zero) l = b
      fits w x y z a b c d (suc (suc zero)) l = c
      fits w x y z a b c d (suc (suc (suc zero))) l = d
      fits w x y z a b c d (suc (suc (suc (suc p)))) l = absurd (omega arith)

  pub receiver_reads : receiver_in (receiver_octets r) ≡ r
  unfolding receiver_in receiver_octets
  receiver_reads =
      let b = receiver_octets r in
      let bits = octets_of_each 2 r.seen in
      let after-counts = octets_of_each 6 r.replay ++ bits in
      let after-key = counts_octets r.counts ++ after-counts in
      let after-peer = r.key ++ after-key in
      let key-at = behind 4 6 b r.peer after-peer typed.peer refl in
      let counts-at = behind 10 16 b r.key after-key typed.key key-at in
      let numbers-at = behind 26 16 b (counts_octets r.counts) after-counts (each_size 4 (r.counts.format_errors ∷ r.counts.replays ∷ r.counts.decrypt_errors ∷ r.counts.opened ∷ [])) counts-at in
      let bits_at = behind 42 96 b (octets_of_each 6 r.replay) bits (each_size 6 r.replay ∙ ap (λ (k : ℕ). 6 * k) typed.replay) numbers-at in
      let replay-is : words 6 priorities (drop 42 b) ≡ r.replay =
      ap (words 6 priorities) numbers-at ∙ ap (λ (k : ℕ). words 6 k after-counts) (sym typed.replay) ∙ words_octets 6 r.replay bits number_fits in
      let seen-is : words 2 priorities (drop 138 b) ≡ r.seen =
      ap (words 2 priorities) (bits_at ∙ sym (append-nil bits)) ∙ ap (λ (k : ℕ). words 2 k (bits ++ [])) (sym typed.seen) ∙ words_octets 2 r.seen [] bits_fit in
      rw (field 4 6 b r.peer after-peer typed.peer refl, field 10 16 b r.key after-key typed.key key-at, counts_read after-counts counts-at, replay-is, seen-is)

module _ (b : List ℕ) (octets : Octets b) (is : is_receiver b ≡ true) where
  pub receiver_back : receiver_octets (receiver_in b) ≡ b
  unfolding receiver_in receiver_octets counts_in
  receiver_back =
      let size = receiver_size_lem b is in
      let counts : counts_octets (counts_in b) ≡ part b 26 16 =
      ap (octets_of_each 4) (sym (counts_list b)) ∙ octets_words 4 4 (drop 26 b) (octets_drop 26 octets) (omega (arith, length-drop 26 b, size)) in
      let replay = octets_words 6 priorities (drop 42 b) (octets_drop 42 octets) (omega (arith, length-drop 42 b, size)) in
      let seen =
      octets_words 2 priorities (drop 138 b) (octets_drop 138 octets) (omega (arith, length-drop 138 b, size)) ∙ take_all 32 (drop 138 b) (omega (arith, length-drop 138 b, size)) in
      ap (λ (t : List ℕ). receiver_kind ∷ layout ∷ get_or b 2 0 ∷ get_or b 3 0 ∷ t)
      (rw (counts, replay, seen, onward 42 96 b, onward 26 16 b, onward 10 16 b, onward 4 6 b))
      ∙ sym
      (of_front receiver_kind layout receiver_size b (receiver_is b is).0 (omega arith)
      ∙ ap (λ (t : List ℕ). receiver_kind ∷ layout ∷ t)
      (drop-cons b 2 0 (omega (arith, size)) ∙ ap (λ (t : List ℕ). get_or b 2 0 ∷ t) (drop-cons b 3 0 (omega (arith, size)))))

pub written_reads : WrittenReads
written_reads = ((λ s t h. (sender_written s t h, sender_reads s t h)), (λ r t h. (receiver_written r t h, receiver_reads r t h)))

pub read_writes : ReadWrites
read_writes = ((λ b o is. (sender_back b o is, sender_sound b o is)), receiver_back)

pub front_tells : FrontTells
front_tells = (alone, (λ b is. let of = (sender_is b is).0 in (of_kind sender_kind layout sender_size b of, of_layout sender_kind layout sender_size b of)), (λ b is. let of = (receiver_is b is).0 in (of_kind receiver_kind layout receiver_size b of, of_layout receiver_kind layout receiver_size b of)))
  where
    octet : (b c : List ℕ) → take front_octets b ≡ take front_octets c → (i : ℕ) → i < front_octets → get_or b i 0 ≡ get_or c i 0
    octet b c e i l = sym (get_or-take front_octets b i 0 l) ∙ ap (λ (t : List ℕ). get_or t i 0) e ∙ get_or-take front_octets c i 0 l

    alone : (b c : List ℕ) → take front_octets b ≡ take front_octets c → (kind_in b ≡ kind_in c) × (layout_in b ≡ layout_in c)
    alone b c e = (octet b c e 0 (omega arith), octet b c e 1 (omega arith))
