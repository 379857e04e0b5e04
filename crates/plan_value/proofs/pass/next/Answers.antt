-- `pass::next` takes one instruction into the pass, kind by kind.
use mathlib.Core.Path.{◌≡◌, sym, ◌∙◌, ap}
use mathlib.Core.Bool.{Bool, true, false, not, ◌&&◌}
use mathlib.Core.Logic.{◌≢◌}
use Prim.Native.Nat.{ℕ, ◌+◌, ◌*◌, ◌≤◌}
use native.Mathlib.Omega.{arith}
use lib.Dec.{leb}
use borrow.Author.Tests.{not-true, not-false}
use Rattle.base.specs.Choice.{within}
use Rattle.plan_value.specs.declared.instruction.Edition.{Edition}
use Rattle.plan_value.specs.declared.pass.Entry.{Entry}
use Rattle.plan_value.specs.Editions.{allowed}
use Rattle.plan_value.specs.Pass.{Seen, seen, entry_ok, finish_fits}
use Rattle.plan_value.proofs.Nexts.{channel_test, zero_level, going_on, next_refused, create_fits, send_fits, receive_fits, next_create_lem, next_send, next_receive, next_other}
use Rattle.plan_value.proofs.Unpaired.{counted_swap}
use Rattle.plan_value.proofs.pass.next.Goals as goal
use Rattle.plan_value.proofs.pass.next.Goals.{After-both-going, Start}

-- what is known before its kind is told apart
module _ (c : After-both-going) where
  abbrev start : Start
  start = c.before.before.before.before.before.before

  abbrev e : Edition
  e = start.args.e

  abbrev x : Entry
  x = start.args.x

  abbrev before : Seen
  before = let a = start.args in seen a.p a.parents.now a.senders.now a.receivers.now

  abbrev argument : ℕ
  argument = c.wide16-a.result

  on : argument ≡ x.instruction.operand
  on = c.wide16-a.ensures

  -- its kind and its second byte are one number
  abbrev head : ℕ
  head = c.wide8.result + 256 * c.wide8-2.result

  kind_of_lem : (k : ℕ) → k ≤ 255 → head ≡ k → x.instruction.opcode ≡ k
  kind_of_lem k few h = omega (arith, c.wide8.ensures, c.wide8-2.ensures)

  level_of_lem : (k : ℕ) → k ≤ 255 → head ≡ k → x.instruction.level ≡ 0
  level_of_lem k few h = omega (arith, c.wide8.ensures, c.wide8-2.ensures)

  going : x.instruction.opcode ≢ 3 → c.both-going.result ≡ before.pass.finishes && finish_fits x
  going ne = going_on x before.pass.finishes ne c.both-going.ensures

  -- r says whether it is in order
  module _ {r : Bool} (test : r ≡ allowed e before.pass.tasks x.instruction) where
    fine : not r ≡ false → entry_ok e before.pass.tasks x ≡ true
    fine h = sym test ∙ not-false r h

    refused : not r ≡ true → entry_ok e before.pass.tasks x ≡ false
    refused h = sym test ∙ not-true r h

  -- of a send and of a receive
  channel : (k : ℕ) → 4 ≤ k → k ≤ 5 → head ≡ k → {r : Bool} → r ≡ leb k e.kinds && within 1 128 argument → r ≡ allowed e before.pass.tasks x.instruction
  channel k low high h test =
      test ∙ channel_test e before.pass.tasks x k argument low high (kind_of_lem k (omega arith) h) (level_of_lem k (omega arith) h) on

  -- neither, by that number
  not_kind : (k : ℕ) → k ≤ 5 → head ≢ k → entry_ok e before.pass.tasks x ≡ true → x.instruction.opcode ≢ k
  not_kind k high ne ok z =
      let zero = zero_level e before.pass.tasks x ok (omega (arith, z)) in
      ne (omega (arith, c.wide8.ensures, c.wide8-2.ensures, z, zero))

pub returns-then-not-is_channel_allowed : goal.returns-then-not-is_channel_allowed
returns-then-not-is_channel_allowed c =
    let l = c.before.before in
    let b = l.before.before in
    let test = channel b 4 (omega arith) (omega arith) l.if-head-eq4.true l.is_channel_allowed.ensures in
    next_refused (e b) (x b) (before b) (refused b test c.if-not-is_channel_allowed.true-raw) c.new.ensures

pub enter_end-sent-requires : goal.enter_end-sent-requires
enter_end-sent-requires c =
    let f = c.before in
    let l = f.before in
    let b = l.before.before in
    let test = channel b 4 (omega arith) (omega arith) l.if-head-eq4.true l.is_channel_allowed.ensures in
    let (low, high) = send_fits (e b) (before b).pass.tasks (x b) (fine b test f.if-not-is_channel_allowed.false-raw) (kind_of_lem b 4 (omega arith) l.if-head-eq4.true) in
    ((start b).requires.1, rw (on b) low, rw (on b) high, (start b).requires.2)

pub returns-then-head-eq4 : goal.returns-then-head-eq4
returns-then-head-eq4 c =
    let n = c.before in
    let f = n.before.before in
    let l = f.before in
    let b = l.before.before in
    let o = kind_of_lem b 4 (omega arith) l.if-head-eq4.true in
    let test = channel b 4 (omega arith) (omega arith) l.if-head-eq4.true l.is_channel_allowed.ensures in
    next_send (e b) (x b) (before b) (fine b test f.if-not-is_channel_allowed.false-raw) (going b (λ z. omega (arith, o, z))) (on b) o c.both-channels.ensures n.enter_end-sent.ensures

pub returns-then-not-is_channel_allowed-2 : goal.returns-then-not-is_channel_allowed-2
returns-then-not-is_channel_allowed-2 c =
    let l = c.before.before in
    let b = l.before.before.before in
    let test = channel b 5 (omega arith) (omega arith) l.if-head-eq5.true l.is_channel_allowed-then-head-eq5.ensures in
    next_refused (e b) (x b) (before b) (refused b test c.if-not-is_channel_allowed-2.true-raw) c.new-then-not-is_channel_allowed-2.ensures

pub enter_end-received-requires : goal.enter_end-received-requires
enter_end-received-requires c =
    let f = c.before in
    let l = f.before in
    let b = l.before.before.before in
    let test = channel b 5 (omega arith) (omega arith) l.if-head-eq5.true l.is_channel_allowed-then-head-eq5.ensures in
    let (low, high) = receive_fits (e b) (before b).pass.tasks (x b) (fine b test f.if-not-is_channel_allowed-2.false-raw) (kind_of_lem b 5 (omega arith) l.if-head-eq5.true) in
    ((start b).requires.1, rw (on b) low, rw (on b) high, counted_swap (start b).requires.2)

pub returns-then-head-eq5 : goal.returns-then-head-eq5
returns-then-head-eq5 c =
    let n = c.before in
    let f = n.before.before in
    let l = f.before in
    let b = l.before.before.before in
    let o = kind_of_lem b 5 (omega arith) l.if-head-eq5.true in
    let test = channel b 5 (omega arith) (omega arith) l.if-head-eq5.true l.is_channel_allowed-then-head-eq5.ensures in
    next_receive (e b) (x b) (before b) (fine b test f.if-not-is_channel_allowed-2.false-raw) (going b (λ z. omega (arith, o, z))) (on b) o c.both-channels-then-head-eq5.ensures n.enter_end-received.ensures

pub returns-then-not-is_allowed : goal.returns-then-not-is_allowed
returns-then-not-is_allowed c =
    let l = c.before.before in
    let b = l.before.before.before.before in
    next_refused (e b) (x b) (before b) (refused b l.is_allowed.ensures c.if-not-is_allowed.true-raw) c.new-then-not-is_allowed.ensures

pub returns-then-opcode-ge-SET : goal.returns-then-opcode-ge-SET
returns-then-opcode-ge-SET c =
    let l = c.before in
    let b = l.before.before.before.before in
    let word : 6 ≤ (x b).instruction.opcode = l.if-opcode-ge-SET.true in
    next_other (e b) (x b) (before b) (fine b l.is_allowed.ensures c.if-not-is_allowed.false-raw) (going b (λ z. omega (arith, word, z))) (start b).requires.2.count
    (λ z. omega (arith, word, z)) (λ z. omega (arith, word, z)) (λ z. omega (arith, word, z))

pub returns-then-not-is_allowed-2 : goal.returns-then-not-is_allowed-2
returns-then-not-is_allowed-2 c =
    let l = c.before.before in
    let b = l.before.before.before.before in
    next_refused (e b) (x b) (before b) (refused b l.is_allowed-2.ensures c.if-not-is_allowed-2.true-raw) c.new-then-not-is_allowed-2.ensures

pub enter_create-requires : goal.enter_create-requires
enter_create-requires c =
    let f = c.before.before in
    let l = f.before in
    let b = l.before.before.before.before in
    rw (on b) (create_fits (e b) (before b).pass.tasks (x b) (fine b l.is_allowed-2.ensures f.if-not-is_allowed-2.false-raw) (start b).requires.0 c.if-opcode-eq-CREATE.true)

pub returns-then-opcode-eq-CREATE : goal.returns-then-opcode-eq-CREATE
returns-then-opcode-eq-CREATE c =
    let n = c.before in
    let f = n.before.before.before in
    let l = f.before in
    let b = l.before.before.before.before in
    let o = n.if-opcode-eq-CREATE.true in
    next_create_lem (e b) (x b) (before b) (fine b l.is_allowed-2.ensures f.if-not-is_allowed-2.false-raw) (going b (λ z. omega (arith, o, z))) (on b) (start b).requires.2.count o c.both-creates.ensures n.enter_create.ensures

pub returns : goal.returns
returns c =
    let g = c.before.before in
    let f = g.before in
    let l = f.before in
    let b = l.before.before.before.before in
    let fit = fine b l.is_allowed-2.ensures f.if-not-is_allowed-2.false-raw in
    next_other (e b) (x b) (before b) fit (c.both-finishes.ensures ∙ ap (λ (t : Bool). (before b).pass.finishes && t) c.same.ensures) (start b).requires.2.count
    g.if-opcode-eq-CREATE.false
    (not_kind b 4 (omega arith) l.if-head-eq4.false fit)
    (not_kind b 5 (omega arith) l.if-head-eq5.false fit)
