-- What a fault of a command tells of the fault that it was made of.
use Rattle.std.proofs.Common.{◌≡◌, ◌∙◌, ◌⊎◌, Result, Err, ap, refl, sym, inl, inr}
use Rattle.std.specs.declared.io.Error.{Error as StreamError}
use Rattle.grants_csv.specs.declared.fault.ImportFault.{ImportFault}
use Rattle.queue_core.specs.declared.book.BookFault.{BookFault}
use Rattle.queue_core.specs.declared.book.BookFault.TheVariants as book
use Rattle.office.specs.declared.fault.OfficeFault.{OfficeFault}
use Rattle.office.specs.declared.fault.OfficeFault.TheVariants as office
use Rattle.office.specs.Faults.{IsOfFile, IsOfStream as IsOfOfficeStream, fault_of_book as office_fault_of_book}
use Rattle.command_ends.specs.Faults.{IsOfStream, fault_of_book, fault_of_names, fault_of_office}
use Rattle.command_ends.specs.declared.fault.Fault.{Fault}
use Rattle.command_ends.specs.declared.fault.Fault.TheVariants.{BadSetting, Damaged, NoAccount, Import}
use Rattle.queue_types.specs.declared.operators.NameFault.{NameFault}
use Rattle.queue_types.specs.declared.operators.NameFault.TheVariants as names
use Rattle.commands.specs.Store.{IsOfStore}
use Rattle.commands.specs.Refusals.{IsOfExpire, IsOfImport, IsOfNoAccount, IsOfOperators, IsOfServe, IsOfStatement}
use Rattle.print_server.specs.declared.fault.ServerFault.{ServerFault}
use Rattle.print_server.specs.declared.fault.ServerFault.TheVariants as server

-- a stream failed there, so it did here
pub of_stream : (told : OfficeFault) (fault : Fault) → fault ≡ fault_of_office told → IsOfOfficeStream told → IsOfStream fault
of_stream told fault is stream = elim stream [ inl e ↦ inl (is ∙ ap fault_of_office e) | inr e ↦ inr (is ∙ ap fault_of_office e) ]

-- a stream failed there or the account file was refused, so it is here
pub of_import : (told : OfficeFault) (fault : Fault) → fault ≡ fault_of_office told → IsOfOfficeStream told ⊎ IsOfFile told → IsOfImport fault
of_import told fault is why = elim why [ inl stream ↦ inl (of_stream told fault is stream) | inr file ↦ inr (file.0, is ∙ ap fault_of_office file.1) ]

of_unread : {A : Type 0} (told : OfficeFault) (fault : Fault) (why : ImportFault) → fault ≡ fault_of_office told
    → (let r : Result A OfficeFault = Err told in r ≡ Err (office.Import why)) → (let r : Result A Fault = Err fault in r ≡ Err (Import why))
of_unread told fault why is e = let same : told ≡ office.Import why = cc in ap Err (is ∙ ap fault_of_office same)

-- it is one of these refusals there, of which the other comes only where P holds, so it is here
pub of_either : {A P : Type 0} (told : OfficeFault) (fault : Fault) (why other : ImportFault) → fault ≡ fault_of_office told
    → (let r : Result A OfficeFault = Err told in (r ≡ Err (office.Import why)) ⊎ ((r ≡ Err (office.Import other)) × P))
    → (let r : Result A Fault = Err fault in (r ≡ Err (Import why)) ⊎ ((r ≡ Err (Import other)) × P))
of_either told fault why other is either = elim either [ inl e ↦ inl (of_unread told fault why is e) | inr e ↦ inr (of_unread told fault other is e.0, e.1) ]

-- no account file was refused there
pub of_statement : (told : OfficeFault) (fault : Fault) → fault ≡ fault_of_office told → (IsOfFile told → ⊥) → IsOfStatement fault
of_statement office.Memory fault is other = inl (inl is)
of_statement office.Disk fault is other = inl (inr (inl is))
of_statement office.Damaged fault is other = inl (inr (inr is))
of_statement office.NoAccount fault is other = inr (inl is)
of_statement (office.Import why) fault is other = absurd (other (why, refl))
of_statement office.Io fault is other = inr (inr is)

pub of_unknown : (told : OfficeFault) (fault : Fault) → fault ≡ fault_of_office told
    → (told ≡ office.NoAccount) ⊎ (told ≡ office.Memory) ⊎ (told ≡ office.Disk) → IsOfNoAccount fault
of_unknown told fault is known = elim known [
  | inl e ↦ inl (is ∙ ap fault_of_office e)
  | inr other ↦ elim other [ inl e ↦ inr (inl (is ∙ ap fault_of_office e)) | inr e ↦ inr (inr (is ∙ ap fault_of_office e)) ]
]

pub of_file : (told : OfficeFault) (why : ImportFault) → fault_of_office told ≡ Import why → told ≡ office.Import why
of_file (office.Import other) why e = cc
of_file _ why e = cc

pub of_no_account : (told : OfficeFault) → fault_of_office told ≡ NoAccount → told ≡ office.NoAccount
of_no_account office.NoAccount e = refl
of_no_account _ e = cc

pub of_damaged_office : (told : OfficeFault) → fault_of_office told ≡ Damaged → told ≡ office.Damaged
of_damaged_office office.Damaged e = refl
of_damaged_office _ e = cc

pub of_damaged_book : (told : BookFault) → fault_of_book told ≡ Damaged → told ≡ book.Damaged
of_damaged_book book.Damaged e = refl
of_damaged_book _ e = cc

-- a stream that fails damages nothing
pub no_damage : (fault : Fault) → IsOfStream fault → fault ≡ Damaged → ⊥
no_damage fault stream is = elim stream [ inl e ↦ cc | inr e ↦ cc ]

-- nor refuses a file
pub no_file : (fault : Fault) (why : ImportFault) → IsOfStream fault → fault ≡ Import why → ⊥
no_file fault why stream is = elim stream [ inl e ↦ cc | inr e ↦ cc ]

pub of_damaged_server : (stopped : ServerFault) (fault : Fault) → ((told : BookFault) → stopped ≡ server.Book told → fault ≡ fault_of_book told)
    → ((error : StreamError) → stopped ≡ server.Io error → IsOfStream fault) → fault ≡ Damaged → stopped ≡ server.Book book.Damaged
of_damaged_server (server.Io error) fault by_book by_stream is = absurd (no_damage fault (by_stream error refl) is)
of_damaged_server (server.Book told) fault by_book by_stream is = ap (λ t. server.Book t) (of_damaged_book told (sym (by_book told refl) ∙ is))

pub of_book : (told : BookFault) (fault : Fault) → fault ≡ fault_of_book told → IsOfStore fault
of_book book.Memory fault is = inl is
of_book book.Disk fault is = inr (inl is)
of_book book.Damaged fault is = inr (inr is)

-- a book's fault that is told there is told here
told_of_book : (told : BookFault) → fault_of_office (office_fault_of_book told) ≡ fault_of_book told
told_of_book book.Memory = refl
told_of_book book.Disk = refl
told_of_book book.Damaged = refl

pub of_expire_stream : (fault : Fault) → IsOfStream fault → IsOfExpire fault
of_expire_stream fault stream = elim stream [ inl e ↦ inl (inl e) | inr e ↦ inr e ]

-- a stream or the book failed there, so it did here
pub of_expire : (told : OfficeFault) (fault : Fault) → fault ≡ fault_of_office told
    → IsOfOfficeStream told ⊎ ((by_book : BookFault) × (told ≡ office_fault_of_book by_book)) → IsOfExpire fault
of_expire told fault is why = elim why [
  | inl stream ↦ of_expire_stream fault (of_stream told fault is stream)
  | inr by_book ↦ inl (of_book by_book.0 fault (is ∙ ap fault_of_office by_book.1 ∙ told_of_book by_book.0))
]

-- names are refused for want of memory, or as a bad setting
pub of_names : (told : NameFault) (fault : Fault) → fault ≡ fault_of_names told → IsOfOperators fault ⊎ (fault ≡ BadSetting)
of_names names.Memory fault is = inl (inl (inl is))
of_names names.TooMany fault is = inr is
of_names names.Bad fault is = inr is
of_names names.Twice fault is = inr is

pub of_operators : (fault : Fault) → IsOfStore fault ⊎ IsOfOperators fault → IsOfOperators fault ⊎ (fault ≡ BadSetting)
of_operators fault told = elim told [ inl store ↦ inl (inl store) | inr other ↦ inl other ]

pub of_serve_stream : (fault : Fault) → IsOfStream fault → IsOfServe fault
of_serve_stream fault stream = elim stream [ inl e ↦ inl (inl e) | inr e ↦ inr e ]

pub of_server : (stopped : ServerFault) (fault : Fault) → ((told : BookFault) → stopped ≡ server.Book told → fault ≡ fault_of_book told)
    → ((error : StreamError) → stopped ≡ server.Io error → IsOfStream fault) → IsOfServe fault
of_server (server.Io error) fault by_book by_stream = of_serve_stream fault (by_stream error refl)
of_server (server.Book told) fault by_book by_stream = inl (of_book told fault (by_book told refl))

-- a stream failed, or the book ended it
pub stopped_by : (stopped : ServerFault) (fault : Fault) → ((error : StreamError) → stopped ≡ server.Io error → IsOfStream fault)
    → IsOfStream fault ⊎ ((told : BookFault) × (stopped ≡ server.Book told))
stopped_by (server.Io error) fault by_stream = inl (by_stream error refl)
stopped_by (server.Book told) fault by_stream = inr (told, refl)
