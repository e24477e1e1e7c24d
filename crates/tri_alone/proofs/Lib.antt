mod Systems
