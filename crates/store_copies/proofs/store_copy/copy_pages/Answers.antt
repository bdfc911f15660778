use Rattle.std.proofs.Common.{◌≡◌, ℕ, ◌+◌, ◌*◌, ◌-◌, Bool, true, false, sym, ap, subst, ◌∙◌, arith}
use Rattle.address_map.specs.Lent.{IsLent}
use Rattle.address_map.specs.Memory.{byte_at, bytes_of, class_of, is_mapped, layout}
use Rattle.address_map.specs.declared.map.AddressMap.{AddressMap}
use Rattle.address_map.proofs.Bytes.{is_mapped-layout}
use Rattle.store_copies.proofs.RenewLemmas.{AreBytesBelow, all_below, one_absent, page_written, pages_absent}
use Rattle.store_copies.proofs.store_copy.copy_pages.Goals as goal
use Rattle.store_copies.proofs.store_copy.copy_pages.Goals.{in-Some, in_default}

pub put_bytes-requires : goal.put_bytes-requires
put_bytes-requires c a from to =
    let start : ℕ = 4096 * c.loop-page.page in
    let size = c.in-Some.ensures.size in
    let e : start + (a - start) ≡ a = omega (arith, from) in
    let there : is_mapped c.memory.result.now a ≡ true =
    ap (is_mapped c.memory.result.now) (sym e) ∙ c.in-Some.ensures.mapped (a - start) (omega (arith, from, to, size)) in
    ap (λ (p : ℕ → Bool). p a) (is_mapped-layout c.args.copy.now c.loop-page.copy c.loop-page.invariant.layout)
    ∙ (c.requires.mapped a ∙ (ap (λ (m : AddressMap). is_mapped m a) (sym c.memory.ensures.map) ∙ there))

pub loop-page-preserved : goal.loop-page-preserved
loop-page-preserved c =
    let map : AddressMap = c.args.machine.now.guest.map in
    let page : ℕ = c.loop-page.page in
    let kept = c.loop-page.invariant in
    let alike = λ (copy : AddressMap) (same : layout copy ≡ layout c.args.copy.now) (a : ℕ).
    ap (λ (p : ℕ → Bool). p a) (is_mapped-layout c.args.copy.now copy same) ∙ c.requires.mapped a in
    let next = λ (copy : AddressMap) (same : layout copy ≡ layout c.args.copy.now) (here : AreBytesBelow copy map (4096 * (page + 1))).
    pages_absent copy map (page + 1) c.past_unmapped-page.result (alike copy same) c.past_unmapped-page.ensures.unmapped here in
    elim c.match-lend.branch [
      | in-Some w ↦
          let copy : AddressMap = c.match-lend.copy in
          let laid : layout copy ≡ layout c.args.copy.now = ap layout w.copy-is ∙ (w.put_bytes.ensures.layout ∙ kept.layout) in
          let lent : IsLent (bytes_of map) (4096 * page) 4096 w.in-Some.bytes.now =
          subst (λ (m : AddressMap). IsLent (bytes_of m) (4096 * page) 4096 w.in-Some.bytes.now) c.memory.ensures.map w.in-Some.ensures in
          record {
            limit = c.past_unmapped-page.ensures.limit;
            bytes = next copy laid (page_written c.loop-page.copy copy map page w.in-Some.bytes.now lent
                (λ a. ap (λ (m : AddressMap). byte_at m a) w.copy-is ∙ w.put_bytes.ensures.bytes a) kept.bytes);
            layout = laid;
            marks = ap class_of w.copy-is ∙ (w.put_bytes.ensures.marks ∙ kept.marks);
          }
      | in_default w ↦
          let copy : AddressMap = c.match-lend.copy in
          let laid : layout copy ≡ layout c.args.copy.now = ap layout w.copy-is ∙ kept.layout in
          let unmapped : is_mapped map (4096 * page) ≡ false =
          subst (λ (m : AddressMap). is_mapped m (4096 * page) ≡ false) c.memory.ensures.map w.in_default.ensures in
          record {
            limit = c.past_unmapped-page.ensures.limit;
            bytes = next copy laid (pages_absent copy map page (page + 1) (alike copy laid) (one_absent map page unmapped)
                (λ a low. ap (λ (m : AddressMap). byte_at m a) w.copy-is ∙ kept.bytes a low));
            layout = laid;
            marks = ap class_of w.copy-is ∙ kept.marks;
          }
    ]

pub returns-clause-bytes : goal.returns-clause-bytes
returns-clause-bytes c =
    let end : c.loop-page.page ≡ 16384 = (let past = c.loop-page-test.false in let up = c.loop-page.invariant.limit in omega (arith, past, up)) in
    all_below c.loop-page.copy c.args.machine.now.guest.map
    (λ a low. c.loop-page.invariant.bytes a (omega (arith, low, end)))
