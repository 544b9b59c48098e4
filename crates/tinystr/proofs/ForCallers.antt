-- The laws as lemmas over plain variables, for callers: clause `c` of the law `LAW` of src/laws.rt is the lemma `LAW_c`, and
-- the set `LAW` holds the lemmas of a law. The proofs of `laws` cite them, and they keep their names.
pub use Rattle.tinystr.proofs.Errors.{parse_error_of-fault_of as error_back_error, fault_of-parse_error_of as error_back_fault}
pub use Rattle.tinystr.proofs.ShortInputs.{mask_l-all as bits_of_class_all, mask_l-under as bits_of_class_fits, mask_l-append as bits_of_class_joined}

pub ruleset error_back = (error_back_error, error_back_fault)

pub ruleset bits_of_class = (bits_of_class_all, bits_of_class_fits, bits_of_class_joined)
