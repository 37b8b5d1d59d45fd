-- Laws of plans.
pub mod PlanReadsStruct
