-- The claims of `specs/Claims.antt`, proved.
-- Assumes nothing.
use mathlib.Core.Path.{◌≡◌, refl, sym, ap, ◌∙◌}
use mathlib.Core.Logic.{◌↔◌}
use mathlib.Core.Bool.{Bool, true, false, cond}
use mathlib.Core.List.{List, [], ◌∷◌, map}
use Prim.Native.Nat.{ℕ, ◌*◌, ◌≤◌, ◌<◌}
use native.Mathlib.Omega.{arith}
use lib.ListN.{length, take, drop}
use lib.Seq.{take-append_seam}
use Rattle.std.specs.Prelude.{Result, Ok}
use Rattle.tag.specs.declared.refusals.Refusal as named
use Rattle.tag.specs.declared.refusals.Refusal.TheVariants.{UnwritableRecords, ShortBuffer}
use Rattle.tag.specs.Bytes.{Octets, overwrite}
use Rattle.tag.specs.TagType.{refused_output, output}
use Rattle.tag.specs.Answers.{count_of}
use Rattle.tag.proofs.Logic.{nope}
use Rattle.tag.proofs.Outputs.{put_all, put-counted, refused-count-is, refused-exactly}
use Rattle.ndef.specs.Record.{Record, OctetRecords}
use Rattle.ndef.specs.Message.{records, message_of}
use Rattle.ndef.specs.declared.Part.{Part}
use Rattle.ndef.specs.declared.Place.{Place}
use Rattle.ndef.specs.Places.{part_at, record_at, table_of, places_of, read}
use Rattle.ndef.specs.Shortest.{message_bytes, is_shortest}
use Rattle.ndef.specs.Writing.{is_writable_list, write_list, is_list, places_of_table, records_in, write}
use Rattle.ndef.specs.PublicContracts.{ReadRecords, WroteRecords}
use Rattle.ndef.specs.Claims.{Readable, SameList, ShortestForm, SameBytes, UnwritableExactly, TooLongExactly, TableIsList, Calls}
use Rattle.ndef.proofs.ListBack.{Listed, listed, lists, list_back}
use Rattle.ndef.proofs.Least.{octets-part, Message, message}
use Rattle.ndef.proofs.Written.{all-octets, wrote, unwritten, overlong, writes, writes-none, writes-not}
use Rattle.ndef.proofs.Tables.{given, reads-output, reads-refused, refused-reads, table-list, places-many, table-is-list, table-long}

-- ---- the claims about the definitions

pub same_list : SameList
same_list = record {
  reads_back = λ room rs n bs e. let w = wrote room rs n bs e in rw (← w.2) (list_back rs w.0);
  counts = λ room rs n bs e. let w = wrote room rs n bs e in sym w.1 ∙ ap length w.2;
  gives_octets = λ room rs n bs o e. let w = wrote room rs n bs e in rw (← w.2) (all-octets 1 rs (omega arith) w.0.each o);
}

pub shortest-form : ShortestForm
shortest-form = record {
  no_shorter = λ room rs n bs m e o r. let w = wrote room rs n bs e in rw (← w.2) (message m rs o r).least.small;
  no_other = λ room rs n bs m e o r l. let w = wrote room rs n bs e in (message m rs o r).least.same (ap length w.2 ∙ sym l) ∙ w.2;
}

module _ (rs : List Record) (m : List ℕ) (o : Octets m) (r : message_of m ≡ records rs) where
  abbrev from_list : Message m rs
  from_list = message m rs o r

  -- writing gives the message back exactly if what is written is as long
  again : length (message_bytes 1 rs) ≡ length m → write_list (length m) rs ≡ output (length m) m
  again e = writes (length m) rs from_list.list from_list.least.small ∙ rw (e, sym (from_list.least.same e))

  as_long : write_list (length m) rs ≡ output (length m) m → length (message_bytes 1 rs) ≡ length m
  as_long e = ap length (wrote (length m) rs (length m) m e).2

  least_other : (other : List ℕ) → Octets other → message_of other ≡ records rs → length (message_bytes 1 rs) ≤ length other
  least_other other oo q = (message other rs oo q).least.small

  is-least : ((other : List ℕ) → Octets other → message_of other ≡ records rs → length m ≤ length other) → length (message_bytes 1 rs) ≡ length m
  is-least least =
      let w = from_list in
      let l : length m ≤ length (message_bytes 1 rs) = least (message_bytes 1 rs) (all-octets 1 rs (omega arith) w.list.each w.octets) (list_back rs w.list) in
      omega (arith, w.least.small)

pub same_bytes : SameBytes
same_bytes = record {
  by_headers = λ rs m o r. (λ q. again rs m o r ((from_list rs m o r).even q), λ e. (from_list rs m o r).shortest (as_long rs m o r e));
  by_length = λ rs m o r. (
    λ least. again rs m o r (is-least rs m o r least),
    λ e other oo q. omega (arith, as_long rs m o r e, least_other rs m o r other oo q),
  );
}

module _ (rs : List Record) (o : OctetRecords rs) where
  -- a list that can be written is read from what is written
  some-message : is_writable_list rs ≡ true → Octets (message_bytes 1 rs) × (message_of (message_bytes 1 rs) ≡ records rs)
  some-message q = (all-octets 1 rs (omega arith) (listed rs q).each o, list_back rs (listed rs q))

  none_reads : (room : ℕ) → write_list room rs ≡ refused_output 33 → (m : List ℕ) → Octets m → message_of m ≡ records rs → ⊥
  none_reads room e m om r =
      let a : is_writable_list rs ≡ false = unwritten room rs e in
      let b : is_writable_list rs ≡ true = lists rs (message m rs om r).list in
      nope (cc)

  none-writes : (room : ℕ) → ((m : List ℕ) → Octets m → message_of m ≡ records rs → ⊥) → write_list room rs ≡ refused_output 33
  none-writes room none = go (is_writable_list rs) refl
    where
      go : (c : Bool) → is_writable_list rs ≡ c → write_list room rs ≡ refused_output 33
      go true q = let s = some-message q in absurd (none (message_bytes 1 rs) s.0 s.1)
      go false q = writes-none room rs q

  no_room : (room : ℕ) → write_list room rs ≡ refused_output 12 → Readable rs × ((m : List ℕ) → Octets m → message_of m ≡ records rs → room < length m)
  no_room room e =
      let w = overlong room rs e in
      let s = some-message w.0 in
      ((message_bytes 1 rs, s.0, s.1), λ m om q. omega (arith, w.1, (message m rs om q).least.small))

  all-longer : (room : ℕ) → Readable rs → ((m : List ℕ) → Octets m → message_of m ≡ records rs → room < length m)
      → write_list room rs ≡ refused_output 12
  all-longer room some longer = go (is_writable_list rs) refl
    where
      go : (c : Bool) → is_writable_list rs ≡ c → write_list room rs ≡ refused_output 12
      go true q = let s = some-message q in writes-not room rs q (longer (message_bytes 1 rs) s.0 s.1)
      go false q = absurd (none_reads room (writes-none room rs q) some.0 some.1 some.2)

pub unwritable-exactly : UnwritableExactly
unwritable-exactly = record { unwritable = λ room rs o. (λ e. none_reads rs o room e, λ none. none-writes rs o room none) }

pub too_long_exactly : TooLongExactly
too_long_exactly = record { too_long = λ room rs o. (λ e. no_room rs o room e, λ w. all-longer rs o room w.0 w.1) }

cut_out : (m t : List ℕ) (rs : List Record) → message_of m ≡ records rs → t ≡ table_of (places_of 16 0 m) → message_of m ≡ records (records_in t m)
cut_out m t rs r e = r ∙ ap records (rw e (sym (table-list m rs r)))

pub table-is-a-list : TableIsList
table-is-a-list = record {
  refuses = λ m r. (λ e. refused-reads m r e, λ e. reads-refused m r e);
  seven_each = λ m n t e. let g = given m n t e in rw (g.table_is, g.counted) (table-long (places_of 16 0 m) ∙ ap (λ k. 7 * k) (places-many m g.list g.reads));
  lies_in = λ m n t e. let g = given m n t e in rw g.table_is (table-is-list m g.list g.reads);
  reads_as = λ m n t e. let g = given m n t e in cut_out m t g.list g.reads g.table_is;
}

-- ---- the claims about the code's answers

-- what was put at a buffer's front
front-is : (xs ys : List ℕ) (n : ℕ) → n ≡ length xs → take n (overwrite xs ys) ≡ xs
front-is xs ys n e = rw e (take-append_seam xs (drop (length xs) ys))

-- a call that wrote: the table was a list, and what was written is its message
written-list : (room : ℕ) (t bytes : List ℕ) (n : ℕ) (all : List ℕ) → write room t bytes ≡ output n all
    → (is_list t bytes ≡ true) × (write_list room (records_in t bytes) ≡ output n all)
unfolding write
written-list room t bytes n all e = go (is_list t bytes) e
  where
    go : (b : Bool) → cond b (write_list room (records_in t bytes)) (refused_output 33) ≡ output n all → (b ≡ true) × (write_list room (records_in t bytes) ≡ output n all)
    go true e = (refl, e)
    go false e = absurd (nope (cc))

list_written : (room : ℕ) (t bytes : List ℕ) → is_list t bytes ≡ true → write room t bytes ≡ write_list room (records_in t bytes)
unfolding write
list_written room t bytes e = rw e

-- reading a message that reads: how many records, and the table's front
read_answer : (m : List ℕ) (rs : List Record) → message_of m ≡ records rs → (table : List ℕ) (r : Result ℕ named.Refusal) (out : List ℕ) → ReadRecords m table r out
    → (r ≡ Ok (length rs)) × (records_in (take (7 * length rs) out) m ≡ rs)
read_answer m rs e table r out w =
    let t : List ℕ = table_of (places_of 16 0 m) in
    let a = put_all (λ room. read m) table out r (length rs) t w (reads-output m rs e) in
    let long : 7 * length rs ≡ length t = sym (table-long (places_of 16 0 m) ∙ ap (λ k. 7 * k) (places-many m rs e)) in
    let front : take (7 * length rs) out ≡ t = ap (take (7 * length rs)) a.1 ∙ front-is t table (7 * length rs) long in
    (a.0, rw front (table-list m rs e))

-- writing that gave a count: the list can be written, and its message is at the buffer's front
write-answer : (t bytes buffer : List ℕ) (n : ℕ) (out : List ℕ) → WroteRecords t bytes buffer (Ok n) out
    → Listed (records_in t bytes) × (take n out ≡ message_bytes 1 (records_in t bytes)) × (length (message_bytes 1 (records_in t bytes)) ≡ n)
write-answer t bytes buffer n out w =
    let p = put-counted (λ room. write room t bytes) buffer out n w in
    let l = written-list (length buffer) t bytes n p.0 p.1 in
    let q = wrote (length buffer) (records_in t bytes) n p.0 l.1 in
    let front : take n out ≡ p.0 = ap (take n) p.2 ∙ front-is p.0 buffer n (sym q.1 ∙ ap length q.2) in
    (q.0, front ∙ sym q.2, q.1)

calls-no-shorter : (t bytes buffer : List ℕ) (n : ℕ) (out m : List ℕ) → WroteRecords t bytes buffer (Ok n) out → Octets m → message_of m ≡ records (records_in t bytes)
    → (n ≤ length m) × (length m ≡ n → m ≡ take n out)
calls-no-shorter t bytes buffer n out m w o r =
    let a = write-answer t bytes buffer n out w in
    let l = (message m (records_in t bytes) o r).least in
    (omega (arith, l.small, a.2), λ e. l.same (a.2 ∙ sym e) ∙ sym a.1)

calls-same-list : (t bytes buffer : List ℕ) (n : ℕ) (out table : List ℕ) (r : Result ℕ named.Refusal) (out' : List ℕ)
    → WroteRecords t bytes buffer (Ok n) out → ReadRecords (take n out) table r out'
    → (k : ℕ) × (r ≡ Ok k) × (records_in (take (7 * k) out') (take n out) ≡ records_in t bytes)
calls-same-list t bytes buffer n out table r out' w v =
    let q = write-answer t bytes buffer n out w in
    let reads : message_of (take n out) ≡ records (records_in t bytes) = ap message_of q.1 ∙ list_back (records_in t bytes) q.0 in
    let a = read_answer (take n out) (records_in t bytes) reads table r out' v in
    (length (records_in t bytes), a.0, a.1)

calls-same-bytes : (m table : List ℕ) (k : ℕ) (out buffer : List ℕ) (r : Result ℕ named.Refusal) (out' : List ℕ) → Octets m → length m ≤ length buffer
    → ReadRecords m table (Ok k) out → WroteRecords (take (7 * k) out) m buffer r out'
    → (n : ℕ) × (r ≡ Ok n) × (n ≤ length m) × (is_shortest m ≡ true ↔ take n out' ≡ m)
calls-same-bytes m table k out buffer r out' o room w v =
    let p = put-counted (λ n. read m) table out k w in
    let g = given m k p.0 p.1 in
    let rs : List Record = g.list in
    let t : List ℕ = table_of (places_of 16 0 m) in
    let long : 7 * k ≡ length t = rw g.counted (sym (table-long (places_of 16 0 m) ∙ ap (λ j. 7 * j) (places-many m rs g.reads))) in
    let front : take (7 * k) out ≡ t = ap (take (7 * k)) (p.2 ∙ ap (λ x. overwrite x table) g.table_is) ∙ front-is t table (7 * k) long in
    let l = message m rs o g.reads in
    let bs : List ℕ = message_bytes 1 rs in
    let list_ok : write (length buffer) (take (7 * k) out) m ≡ write_list (length buffer) (records_in t m) =
    rw front (list_written (length buffer) t m (table-is-list m rs g.reads)) in
    let its_bytes : write_list (length buffer) (records_in t m) ≡ output (length bs) bs =
    rw (table-list m rs g.reads) (writes (length buffer) rs l.list (omega (arith, l.least.small))) in
    let a = put_all (λ n. write n (take (7 * k) out) m) buffer out' r (length bs) bs v (list_ok ∙ its_bytes) in
    let taken : take (length bs) out' ≡ bs = ap (take (length bs)) a.1 ∙ front-is bs buffer (length bs) refl in (
      length bs,
      a.0,
      l.least.small,
      (λ q. taken ∙ sym (l.least.same (l.even q)), λ e. l.shortest (ap length (sym taken ∙ e))),
    )

-- the records of a table are made of octets if its bytes are
table-octets : (bytes : List ℕ) → Octets bytes → (ps : List Place) → OctetRecords (map (record_at bytes) ps)
unfolding record_at
table-octets bytes o [] = tt
table-octets bytes o (p ∷ ps) =
    let part : (q : Part) → Octets (part_at bytes q) = λ q. octets-part bytes o q.at q.len in
    ((part p.rtype, part p.id, part p.payload), table-octets bytes o ps)

module _ (room : ℕ) (t bytes : List ℕ) (o : Octets bytes) where
  none-if-refused : write room t bytes ≡ refused_output 33 → is_list t bytes ≡ true → (m : List ℕ) → Octets m → message_of m ≡ records (records_in t bytes) → ⊥
  none-if-refused e l = none_reads (records_in t bytes) (table-octets bytes o (places_of_table t)) room (sym (list_written room t bytes l) ∙ e)

  refused-if-none : (is_list t bytes ≡ true → (m : List ℕ) → Octets m → message_of m ≡ records (records_in t bytes) → ⊥) → write room t bytes ≡ refused_output 33
  unfolding write
  refused-if-none none = go (is_list t bytes) refl
    where
      go : (b : Bool) → is_list t bytes ≡ b → cond b (write_list room (records_in t bytes)) (refused_output 33) ≡ refused_output 33
      go true q = none-writes (records_in t bytes) (table-octets bytes o (places_of_table t)) room (none q)
      go false q = refl

  longer-if-refused : write room t bytes ≡ refused_output 12
      → (is_list t bytes ≡ true) × Readable (records_in t bytes) × ((m : List ℕ) → Octets m → message_of m ≡ records (records_in t bytes) → room < length m)
  unfolding write
  longer-if-refused e =
      let l = go (is_list t bytes) e in
      let w = no_room (records_in t bytes) (table-octets bytes o (places_of_table t)) room l.1 in
      (l.0, w.0, w.1)
    where
      go : (b : Bool) → cond b (write_list room (records_in t bytes)) (refused_output 33) ≡ refused_output 12 → (b ≡ true) × (write_list room (records_in t bytes) ≡ refused_output 12)
      go true e = (refl, e)
      go false e = absurd (let z : ◌≡◌ {A = ℕ} 33 12 = cc in omega arith)

  refused-if-longer : is_list t bytes ≡ true → Readable (records_in t bytes) → ((m : List ℕ) → Octets m → message_of m ≡ records (records_in t bytes) → room < length m)
      → write room t bytes ≡ refused_output 12
  refused-if-longer l some longer = list_written room t bytes l ∙ all-longer (records_in t bytes) (table-octets bytes o (places_of_table t)) room some longer

pub calls : Calls
calls = record {
  refuses = λ m table r out k w. (
    λ q. refused-reads m k ((refused-exactly (read m) r q.0 w.0).0 q.1 ∙ ap refused_output q.2),
    λ q. refused-count-is r k (w.0 ∙ ap count_of (reads-refused m k q)),
  );
  unwritable = λ t bytes buffer r out o w.
      let e = refused-exactly (write (length buffer) t bytes) r UnwritableRecords w.0 in
      (λ q. none-if-refused (length buffer) t bytes o (e.0 q), λ none. e.1 (refused-if-none (length buffer) t bytes o none));
  too_long = λ t bytes buffer r out o w.
      let e = refused-exactly (write (length buffer) t bytes) r ShortBuffer w.0 in
      (λ q. longer-if-refused (length buffer) t bytes o (e.0 q), λ v. e.1 (refused-if-longer (length buffer) t bytes o v.0 v.1 v.2));
  no_shorter = calls-no-shorter;
  same_list = calls-same-list;
  same_bytes = calls-same-bytes;
}
